use Rattle.std.proofs.Common.{◌≡◌}
use Rattle.board.specs.Boards.{with_signals, fell}
use Rattle.board.proofs.board.Board.drop_arms.Given as goal

abbrev pub invariant-loop-r : goal.invariant-loop-r
invariant-loop-r l = l.self ≡ with_signals l.initial.self (fell l.plan.layout l.initial.self l.p l.r)
