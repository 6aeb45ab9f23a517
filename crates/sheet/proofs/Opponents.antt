-- Hostility, from its tests, and that it is the same both ways.
use Rattle.std.proofs.Common.{◌≡◌, ℕ, zero, suc, ◌<◌, Bool, true, false, not, ◌&&◌, ◌||◌, eqb, ltb, Some, None, Option, sym, refl, ◌∙◌, ⊎_elim}
use Rattle.std.proofs.lemmas.Bool.{eq-eqb, ne_eqb, lt-ltb, le-ltb, cases_eq, cases_lt, and_left, and_right}
use Rattle.sheet.specs.Layouts.{route_in, demand_of}
use Rattle.sheet.specs.Hostility.{opposed, clashing, named_at_route, opponents, are_hostile}
use Rattle.sheet.specs.declared.layout.Position.{Position}
use Rattle.sheet.specs.declared.layout.Position.TheVariants.{Plus, Minus}
use Rattle.sheet.specs.declared.layout.Route.{Route}
use Rattle.sheet.specs.declared.layout.Layout.{Layout}

eqb_sym : (a b : ℕ) → eqb a b ≡ eqb b a
eqb_sym a b = ⊎_elim (λ e. eq-eqb a b e ∙ sym (eq-eqb b a (sym e))) (λ ne. ne_eqb a b ne ∙ sym (ne_eqb b a (λ e. ne (sym e)))) (cases_eq a b)

or_sym : (a b : Bool) → (a || b) ≡ (b || a)
or_sym true true = refl
or_sym true false = refl
or_sym false true = refl
or_sym false false = refl

and_sym : (a b : Bool) → (a && b) ≡ (b && a)
and_sym true true = refl
and_sym true false = refl
and_sym false true = refl
and_sym false false = refl

opposed_sym : (a b : Option Position) → opposed a b ≡ opposed b a
opposed_sym None None = refl
opposed_sym None (Some Plus) = refl
opposed_sym None (Some Minus) = refl
opposed_sym (Some Plus) None = refl
opposed_sym (Some Plus) (Some Plus) = refl
opposed_sym (Some Plus) (Some Minus) = refl
opposed_sym (Some Minus) None = refl
opposed_sym (Some Minus) (Some Plus) = refl
opposed_sym (Some Minus) (Some Minus) = refl

clashing_sym : (a b : Route) (n : ℕ) → clashing a b n ≡ clashing b a n
clashing_sym a b zero = refl
clashing_sym a b (suc n) = let e = clashing_sym a b n in let f = opposed_sym (demand_of a n) (demand_of b n) in cc

pub hostile_symmetric : (l : Layout) (r q : ℕ) → are_hostile l r q ≡ are_hostile l q r
unfolding are_hostile
hostile_symmetric l r q =
    let a = eqb_sym (route_in l.routes r).lever (route_in l.routes q).lever in
    let b = eqb_sym (route_in l.routes r).signal (route_in l.routes q).signal in
    let c = or_sym (named_at_route l r q) (named_at_route l q r) in
    let d = clashing_sym (route_in l.routes r) (route_in l.routes q) l.counts.points in
    let e = eqb_sym r q in
    let f = and_sym (ltb r l.counts.routes) (ltb q l.counts.routes) in
    cc

-- two routes of the plan
pub hostile_two : (l : Layout) (r q : ℕ) → r < l.counts.routes → q < l.counts.routes → (r ≡ q → ⊥) → are_hostile l r q ≡ opponents l r q
unfolding are_hostile
hostile_two l r q a b ne = let x = lt-ltb r l.counts.routes a in let y = lt-ltb q l.counts.routes b in let z = ne_eqb r q ne in rw (x, y, z)

-- no two routes of the plan
pub hostile_not : (l : Layout) (r q : ℕ) → (r < l.counts.routes → q < l.counts.routes → (r ≡ q → ⊥) → ⊥) → are_hostile l r q ≡ false
unfolding are_hostile
hostile_not l r q h =
    ⊎_elim
    (λ a. ⊎_elim
    (λ b. ⊎_elim
    (λ e. let z = eq-eqb r q e in and_right (ltb r l.counts.routes && ltb q l.counts.routes) (not (eqb r q) && opponents l r q) (rw z))
    (λ ne. absurd (h a b ne))
    (cases_eq r q))
    (λ b. let y = le-ltb q l.counts.routes b in and_left (ltb r l.counts.routes && ltb q l.counts.routes) (not (eqb r q) && opponents l r q) (and_right _ _ y))
    (cases_lt q l.counts.routes))
    (λ a. let x = le-ltb r l.counts.routes a in rw x)
    (cases_lt r l.counts.routes)
