use Rattle.std.proofs.Common.{false, arith, rules}
use borrow.Author.Tests.{tests}
use Rattle.std.proofs.lemmas.List.FromFn.{fill_by_all}
use Rattle.sheet.specs.Hostility.{are_hostile, hostiles_of}
use Rattle.sheet.proofs.Chains.{made_at}
use Rattle.sheet.proofs.plan.Plan.hostile_members.Goals as goal

pub returns : goal.returns
unfolding hostiles_of
returns c =
    let f = are_hostile c.args.self.now.layout c.args.r in
    let made = c.from_fn.ensures.items in
    fill_by_all f c.from_fn.result 32 false made.long (λ k m. made_at f false _ c.from_fn.result (λ x b q h. search (rules, tests)) 32 0 made.each k (omega arith) (omega arith))
