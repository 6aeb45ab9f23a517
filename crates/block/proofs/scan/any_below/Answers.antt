use Rattle.std.proofs.Common.{rules}
use Rattle.basics.proofs.Scans.{any_ranged}
use borrow.Author.Tests.{tests}
use Rattle.block.proofs.scan.any_below.Goals as goal

pub returns : goal.returns
returns g c f h = any_ranged f c.args.n _ _ c.any.result c.any.ensures.ran (cc) (λ x b q k. search (rules, tests, h))
