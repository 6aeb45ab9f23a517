use Rattle.std.proofs.Common.{rules, tests}
use Rattle.basics.proofs.Scans.{lowest_ranged}
use Rattle.board.specs.Calls.{fails_at}
use Rattle.board.proofs.board.Board.failure.Goals as goal

pub returns : goal.returns
returns c =
    lowest_ranged (fails_at c.args.self.now c.args.route.now) c.args.plan.now.layout.counts.points _ _ c.find.result c.find.ensures.ran (cc) (λ x b q k. search (rules, tests))
