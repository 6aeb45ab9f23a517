use Rattle.std.proofs.Common.{rules, tests}
use Rattle.basics.proofs.Scans.{lowest_ranged}
use Rattle.board.specs.Boards.{serves}
use Rattle.board.proofs.board.Board.set_route_of.Goals as goal

pub returns-clause-value : goal.returns-clause-value
returns-clause-value c =
    let l = c.args.plan.now.layout in
    lowest_ranged (serves l c.args.self.now c.args.g) l.counts.routes _ _ c.find.result c.find.ensures.ran (cc) (λ x b q k. search (rules, tests))
