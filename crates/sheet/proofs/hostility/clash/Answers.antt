use Rattle.std.proofs.Common.{Bool, None, Option, take, ◌∙◌, arith, rules}
use borrow.Author.Tests.{tests}
use Rattle.std.proofs.lemmas.Iterator.{YieldsList-from_slice, YieldsList-from_zip}
use Rattle.std.proofs.lemmas.Iterator.Search.{any_from_yields_List}
use Rattle.sheet.specs.Hostility.{opposed}
use Rattle.sheet.specs.declared.layout.Position.{Position}
use Rattle.sheet.proofs.Chains.{any_zipped}
use Rattle.sheet.proofs.hostility.clash.Goals as goal

pub returns : goal.returns
returns c =
    let n = c.args.points in
    let xs = c.args.a.now.demands in
    let ys = c.args.b.now.demands in
    let p : Option Position × Option Position → Bool = λ x. opposed x.0 x.1 in
    any_from_yields_List p c.any.new.self _ c.any.result c.any.ensures.ran (YieldsList-from_zip (YieldsList-from_slice (take n xs) (cc)) (YieldsList-from_slice (take n ys) (cc))) (λ x b q k. search (rules, tests))
    ∙ any_zipped p (None, None) xs ys n (omega arith) (omega arith)
