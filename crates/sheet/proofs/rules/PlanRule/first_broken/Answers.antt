use Rattle.std.proofs.Common.{rules, ◌∙◌}
use borrow.Author.Tests.{tests}
use Rattle.basics.proofs.Scans.{lowest_ranged}
use Rattle.sheet.specs.Rules.{breaks, extent_of}
use Rattle.sheet.proofs.Breaking.{lowest_there}
use Rattle.sheet.proofs.rules.PlanRule.first_broken.Goals as goal

pub returns : goal.returns
returns c =
    let l = c.args.layout.now in
    lowest_ranged (breaks l c.args.self) (extent_of l c.args.self) _ _ c.find.result c.find.ensures.ran (cc) (λ x b q k. search (rules, tests))
    ∙ lowest_there l c.args.self
