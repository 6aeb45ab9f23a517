use Rattle.std.proofs.Common.{rules, tests}
use Rattle.basics.proofs.Scans.{any_ranged}
use Rattle.board.specs.Boards.{claims}
use Rattle.board.proofs.board.Board.is_locked.Goals as goal

pub returns : goal.returns
returns c =
    let l = c.args.plan.now.layout in
    any_ranged (claims l c.args.self.now c.args.p) l.counts.routes _ _ c.any.result c.any.ensures.ran (cc) (λ x b q k. search (rules, tests))
