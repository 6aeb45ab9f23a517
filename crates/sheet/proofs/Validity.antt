-- What a layout that has passed the rules keeps.
use Rattle.std.proofs.Common.{◌≡◌, ℕ, ◌+◌, ◌<◌, true, false, List, [], length, set, Some, None, Option, sym, refl, ap, ◌∙◌, subst, ⊎_elim, arith}
use Rattle.std.proofs.lemmas.List.{get_or-set_same, get_or-set_other}
use Rattle.std.proofs.lemmas.Bool.{cases_eq, cases_order, eq-eqb, not-false}
use Rattle.sheet.specs.Layouts.{route_in, same_side}
use Rattle.sheet.specs.Rules.{alike, shared, has_lever, has_signal, broken, lowest_broken}
use Rattle.sheet.specs.Decode.{Outcome, accepted, refuse, ruled}
use Rattle.sheet.specs.Valid.{WithinTo, Apart, LeversServed, SignalsServed}
use Rattle.sheet.specs.declared.rules.PlanRule.{PlanRule}
use Rattle.sheet.specs.declared.rules.PlanRule.TheVariants.{OneRouteASide, LeversServe, SignalsServe}
use Rattle.sheet.specs.declared.layout.Side.{Side}
use Rattle.sheet.specs.declared.layout.Side.TheVariants.{Up, Down}
use Rattle.sheet.specs.declared.layout.Release.TheVariants.{Station}
use Rattle.sheet.specs.declared.layout.Route.{Route}
use Rattle.sheet.specs.declared.layout.Counts.{Counts}
use Rattle.sheet.specs.declared.layout.Layout.{Layout}
use Rattle.basics.proofs.Scans.{any_none, lowest_none}

-- one route more whose lever and signal there are
pub within_more : (k : ℕ) (c : Counts) (rs : List Route) (x : Route) → k < length rs → WithinTo k c rs
    → (x.lever < c.levers) × (x.signal < c.signals) → WithinTo (k + 1) c (set rs k x)
within_more k c rs x l old new r lt =
    let d : Route = record { lever = 0; side = Up; signal = 0; release = Station; demands = []; named = [] } in
    let P : Route → Type 0 = λ y. (y.lever < c.levers) × (y.signal < c.signals) in
    ⊎_elim
    (λ e. subst P (sym (ap (route_in (set rs k x)) e ∙ get_or-set_same rs k x d l)) new)
    (λ ne. subst P (sym (get_or-set_other rs k r x d ne)) (old r (omega arith)))
    (cases_eq r k)

-- an accepted layout breaks no rule
pub no_refusal : (k : PlanRule) (o : Option ℕ) (x : Outcome) (l : Layout) → refuse k o x ≡ accepted l → (o ≡ None) × (x ≡ accepted l)
no_refusal k (Some p) x l h = let z : ◌≡◌ {A = ℕ} 0 1 = cc in absurd (omega arith)
no_refusal k None x l h = (refl, h)

pub record Passed (l : Layout) : Type 0 where
  pub sides : lowest_broken l OneRouteASide ≡ None
  pub levers : lowest_broken l LeversServe ≡ None
  pub signals : lowest_broken l SignalsServe ≡ None

pub passed : (l : Layout) → ruled l ≡ accepted l → Passed l
passed l h =
    let a = no_refusal OneRouteASide (lowest_broken l OneRouteASide) (refuse LeversServe (lowest_broken l LeversServe) (refuse SignalsServe (lowest_broken l SignalsServe) (accepted l))) l h in
    let b = no_refusal LeversServe (lowest_broken l LeversServe) (refuse SignalsServe (lowest_broken l SignalsServe) (accepted l)) l a.1 in
    let c = no_refusal SignalsServe (lowest_broken l SignalsServe) (accepted l) l b.1 in
    record { sides = a.0; levers = b.0; signals = c.0 }

same_side_lem : (a b : Side) → a ≡ b → same_side a b ≡ true
same_side_lem Up b e = rw (← e)
same_side_lem Down b e = rw (← e)

same_alike : (a b : Route) → a.lever ≡ b.lever → a.side ≡ b.side → alike a b ≡ true
same_alike a b e f = let p = eq-eqb a.lever b.lever e in let q = same_side_lem a.side b.side f in rw (p, q)

-- no lower route has the lever and side of a higher one
never_lower : (l : Layout) → Passed l → (q r : ℕ) → q < r → r < l.counts.routes
    → (route_in l.routes q).lever ≡ (route_in l.routes r).lever → (route_in l.routes q).side ≡ (route_in l.routes r).side → ⊥
never_lower l p q r lt within e f =
    let none : shared l r ≡ false = lowest_none (shared l) l.counts.routes r p.sides within in
    let no : alike (route_in l.routes q) (route_in l.routes r) ≡ false = any_none (λ q. alike (route_in l.routes q) (route_in l.routes r)) r q none lt in
    let yes = same_alike (route_in l.routes q) (route_in l.routes r) e f in
    let z : true ≡ false = sym yes ∙ no in
    let o : ◌≡◌ {A = ℕ} 0 1 = cc in omega arith

pub apart : (l : Layout) → Passed l → Apart l
apart l p r q h =
    ⊎_elim (λ e. e)
    (⊎_elim
    (λ lt. absurd (never_lower l p r q lt h.1 h.2 h.3))
    (λ gt. absurd (never_lower l p q r gt h.0 (sym h.2) (sym h.3))))
    (cases_order r q)

pub levers_served_lem : (l : Layout) → Passed l → LeversServed l
levers_served_lem l p v h = not-false (has_lever l v) (lowest_none (broken l LeversServe) l.counts.levers v p.levers h)

pub signals_served_lem : (l : Layout) → Passed l → SignalsServed l
signals_served_lem l p g h = not-false (has_signal l g) (lowest_none (broken l SignalsServe) l.counts.signals g p.signals h)
