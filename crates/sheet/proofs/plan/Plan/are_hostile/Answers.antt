use Rattle.std.proofs.Common.{sym, refl, ◌∙◌, arith}
use Rattle.sheet.proofs.Opponents.{hostile_symmetric, hostile_two, hostile_not}
use Rattle.sheet.proofs.plan.Plan.are_hostile.Goals as goal

pub returns-then-r-routes : goal.returns-then-r-routes
returns-then-r-routes c =
    let e = hostile_not c.args.self.now.layout c.args.r c.args.q (λ a b ne. omega (arith, ne)) in
    record { value = sym e; symmetric = sym e ∙ hostile_symmetric _ _ _; other = λ _. refl }

pub returns : goal.returns
returns c =
    let e = hostile_two c.args.self.now.layout c.args.r c.args.q c.if-r-routes.false c.if-q-routes.false c.if-r-q.false in
    record { value = c.oppose.ensures ∙ sym e; symmetric = c.oppose.ensures ∙ (sym e ∙ hostile_symmetric _ _ _); other = λ same. absurd (c.if-r-q.false same) }
