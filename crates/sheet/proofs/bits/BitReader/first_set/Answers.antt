use Rattle.std.proofs.Common.{◌-◌, sym, refl, ◌∙◌, rules}
use borrow.Author.Tests.{tests}
use Rattle.std.proofs.lemmas.Iterator.{YieldsList-from_range}
use Rattle.std.proofs.lemmas.Iterator.Adapters.{option_map_id}
use Rattle.std.proofs.lemmas.Iterator.Search.{find_from_yields_List}
use Rattle.sheet.proofs.Filled.{is_set, zeros_by}
use Rattle.sheet.proofs.bits.BitReader.first_set.Goals as goal

pub returns : goal.returns
returns c =
    let s = c.args.self.now.bytes.now in
    let i = c.args.self.now.at in
    let e = find_from_yields_List (is_set s) c.find.new.self _ c.find.result c.find.ensures.ran (YieldsList-from_range i c.args.end (c.args.end - i) (cc) refl) (λ x b q k. search (rules, tests)) in
    zeros_by s i c.args.end c.find.result c.requires (sym e ∙ option_map_id c.find.result)
