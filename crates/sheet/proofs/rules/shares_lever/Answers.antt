use Rattle.std.proofs.Common.{Bool, take, ◌∙◌, arith, rules}
use borrow.Author.Tests.{tests}
use Rattle.std.proofs.lemmas.Iterator.{YieldsList-from_slice}
use Rattle.std.proofs.lemmas.Iterator.Search.{any_from_yields_List}
use Rattle.basics.proofs.Scans.{any_rows}
use Rattle.sheet.specs.Layouts.{route_in}
use Rattle.sheet.specs.Rules.{alike}
use Rattle.sheet.specs.declared.layout.Route.{Route}
use Rattle.sheet.proofs.rules.shares_lever.Goals as goal

pub returns : goal.returns
returns c =
    let l = c.args.layout.now in
    let p : Route → Bool = λ x. alike x (route_in l.routes c.args.r) in
    any_from_yields_List p _ _ c.any.result c.any.ensures.ran (YieldsList-from_slice (take c.args.r l.routes) (cc)) (λ x b q k. search (rules, tests))
    ∙ any_rows p _ l.routes c.args.r (omega arith)
