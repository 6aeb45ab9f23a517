use Rattle.std.proofs.Common.{◌≡◌, Bool, nat_eq, take, arith, rules}
use borrow.Author.Tests.{tests}
use Rattle.std.proofs.lemmas.Iterator.{YieldsList-from_slice}
use Rattle.std.proofs.lemmas.Iterator.Search.{any_from_yields_List}
use Rattle.std.specs.List.{list_any}
use Rattle.basics.proofs.Scans.{any_rows}
use Rattle.sheet.specs.Rules.{has_lever, has_signal}
use Rattle.sheet.specs.declared.layout.Route.{Route}
use Rattle.sheet.proofs.Breaking.{breaks_there}
use Rattle.sheet.proofs.rules.PlanRule.is_broken.Goals as goal

pub returns-in-LeversServe : goal.returns-in-LeversServe
returns-in-LeversServe c =
    let l = c.args.layout.now in
    let p : Route → Bool = λ x. nat_eq x.lever c.args.k in
    let t = any_from_yields_List p _ _ c.any.result c.any.ensures.ran (YieldsList-from_slice (take l.counts.routes l.routes) (cc)) (λ x b q k. search (rules, tests)) in
    let a : list_any p (take l.counts.routes l.routes) ≡ has_lever l c.args.k = any_rows p _ l.routes l.counts.routes (omega arith) in
    let b = breaks_there l c.args.self c.args.k (omega arith) in
    rw (b, c.in-LeversServe.is, t, a)

pub returns-in-SignalsServe : goal.returns-in-SignalsServe
returns-in-SignalsServe c =
    let l = c.args.layout.now in
    let p : Route → Bool = λ x. nat_eq x.signal c.args.k in
    let t = any_from_yields_List p _ _ c.any-in-SignalsServe.result c.any-in-SignalsServe.ensures.ran (YieldsList-from_slice (take l.counts.routes l.routes) (cc)) (λ x b q k. search (rules, tests)) in
    let a : list_any p (take l.counts.routes l.routes) ≡ has_signal l c.args.k = any_rows p _ l.routes l.counts.routes (omega arith) in
    let b = breaks_there l c.args.self c.args.k (omega arith) in
    rw (b, c.in-SignalsServe.is, t, a)
