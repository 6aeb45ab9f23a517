-- The round trip: an accepted sheet is the sheet of its plan, and a plan's sheet says that plan.
use Rattle.std.proofs.Common.{◌≡◌, ℕ, zero, suc, ◌+◌, ◌-◌, ◌*◌, ◌/◌, ◌%◌, ◌<◌, ◌≤◌, Bool, true, false, cond, eqb, ltb, leb, List, [], ◌∷◌, ◌++◌, length, take, drop, replicate, sym, refl, ap, ◌∙◌, subst, inl, inr, arith}
use base.Stored.{Coded-set, coded_ℕ}
use mathlib.Core.Logic.{∥∥₁_elim}
use Rattle.std.proofs.lemmas.List.{take_all, take_at, length-take-le}
use Rattle.std.proofs.lemmas.Bool.{ltb-false, eqb-true, ne_eqb, le-leb}
use Rattle.sheet.specs.Bits.{Bytes, Read, done, fault, next, bit_of}
use Rattle.sheet.specs.Fields.{edition_at, counts_at, route_at, routes_at, zeros_at, filling_at, layout_at}
use Rattle.sheet.specs.Layouts.{no_route}
use Rattle.sheet.specs.Rules.{lowest_broken}
use Rattle.sheet.specs.Decode.{Outcome-set, accepted, refuse, ruled, settled, decode}
use Rattle.sheet.specs.Encode.{encode, filled, pack, sheet_of, routes_bits, route_bits}
use Rattle.sheet.specs.Valid.{Sound}
use Rattle.sheet.specs.Writing.{wrote, writing}
use Rattle.sheet.specs.contracts.layout.Layout.{the_row}
use Rattle.sheet.specs.declared.fault.Flaw.{Flaw}
use Rattle.sheet.specs.declared.fault.Flaw.TheVariants.{BadFilling}
use Rattle.sheet.specs.declared.rules.PlanRule.TheVariants.{OneRouteASide, LeversServe, SignalsServe}
use Rattle.sheet.specs.declared.layout.Side.TheVariants.{Up}
use Rattle.sheet.specs.declared.layout.Release.TheVariants.{Station}
use Rattle.sheet.specs.declared.layout.Counts.{Counts}
use Rattle.sheet.specs.declared.layout.Route.{Route}
use Rattle.sheet.specs.declared.layout.Layout.{Layout}
use Rattle.sheet.proofs.Fits.{took_at, edition_took, counts_took, route_took, fill_took}
use Rattle.sheet.proofs.Took.{bits, length-bits_of, up_to, up_to_more, Took, took_none, took_append, went, kept, done_parts}
use Rattle.sheet.proofs.Validity.{no_refusal}

routes_took : (h : Counts) (s : List ℕ) (i : ℕ) (rs : List Route) (ds : List ℕ) (j : ℕ) → h.points ≤ 32 → h.routes ≤ 32 → routes_at h s i ≡ done rs ds j
    → Took s ds i j (routes_bits (record { counts = h; routes = rs }))
routes_took h s i rs ds j lp ln q =
    (fill_took (route_at h) (λ r x. route_bits h x r) (record { lever = 0; side = Up; signal = 0; release = Station; demands = []; named = [] }) h.routes
    (λ r s i x ds j lr e. route_took h r lp ln lr s i x ds j e) s i h.routes 0 (replicate 32 no_route) rs ds j (omega arith) (omega arith) q).0

-- no byte over
ended : (t : Bool) (n : Flaw) (p : ℕ) (s : List ℕ) (i : ℕ) (ds : List ℕ) (j : ℕ) → ◌≡◌ {A = Read (Unit {0})} (cond t (fault n p) (done tt s i)) (done tt ds j) → (t ≡ false) × (s ≡ ds) × (i ≡ j)
ended true n p s i ds j h = let z : ◌≡◌ {A = ℕ} 0 1 = cc in absurd (omega arith)
ended false n p s i ds j h = (refl, (cc), (cc))

pub zeros_took : (s : List ℕ) (i m : ℕ) (ds : List ℕ) (j : ℕ) → i + m ≤ 8 * length s → zeros_at s i m ≡ done tt ds j
    → Took s ds i j (replicate m 0) × (j ≡ i + m) × (length s ≤ j / 8)
zeros_took s i zero ds j l h =
    let e = ended (ltb (i / 8) (length s)) BadFilling i s i ds j h in
    let n : length s ≤ i / 8 = ltb-false (i / 8) (length s) e.0 in
    let ej : i ≡ j = e.2 in
    (took_at (took_none s i) e.1 e.2 refl, omega arith, subst (λ (m : ℕ). length s ≤ m / 8) ej n)
zeros_took s i (suc m) ds j l h =
    let k = kept (eqb (bit_of s i) 0) (zeros_at s (i + 1) m) BadFilling i tt ds j h in
    let z : bit_of s i ≡ 0 = eqb-true (bit_of s i) 0 k.0 in
    let r = zeros_took s (i + 1) m ds j (omega arith) k.1 in
    let u = up_to_more s i (omega arith) in
    let t : Took s s i (i + 1) (0 ∷ []) = record { same = refl; far = λ g. omega arith; bits = u ∙ ap (λ b. up_to s i ++ b ∷ []) z } in
    (took_append t r.0, omega (arith, r.1), r.2)

byte : (b : ℕ) → b < 256
    → b / 128 % 2 * 128 + b / 64 % 2 * 64 + b / 32 % 2 * 32 + b / 16 % 2 * 16 + b / 8 % 2 * 8 + b / 4 % 2 * 4 + b / 2 % 2 * 2 + b / 1 % 2 ≡ b
byte b h = omega arith

pub pack-bits : (s : List ℕ) → Bytes s → pack (bits s) ≡ s
pack-bits [] h = refl
pack-bits (b ∷ s) h = let e = byte b (h 0) in let r = pack-bits s (λ i. h (suc i)) in (cc (e, r))

-- all fields are taken, and then the filling: those are all bits
full : (s : List ℕ) (l : Layout) (ds : List ℕ) (i : ℕ) (es : List ℕ) (e : ℕ) → Took s ds 0 i (encode l) → filling_at ds i ≡ done tt es e → bits s ≡ filled (encode l)
full s l ds i es e t h =
    let far : i ≤ 8 * length s = t.far (omega arith) in
    let n : length (encode l) ≡ i = sym (ap length t.bits) ∙ length-take-le i (bits s) (omega (arith, length-bits_of s)) in
    let P : List ℕ → Type 0 = λ x. filling_at x i ≡ done tt es e in
    let g : filling_at s i ≡ done tt es e = subst P t.same h in
    let c = zeros_took s i ((i + 7) / 8 * 8 - i) es e (omega arith) g in
    let k : e ≡ i + ((i + 7) / 8 * 8 - i) = c.1 in
    let m : length s ≤ e / 8 = c.2 in
    let v = took_append (subst (λ (x : List ℕ). Took s x 0 i (encode l)) t.same t) c.0 in
    let w : take e (bits s) ≡ bits s = take_all e (bits s) (omega (arith, length-bits_of s)) in
    sym w ∙ (v.bits ∙ ap (λ (x : ℕ). encode l ++ replicate ((x + 7) / 8 * 8 - x) 0) (sym n))

-- fields and filling of a sheet are the bits of its plan, filled up
pub layout_bits : (s : List ℕ) (l : Layout) (ds : List ℕ) (j : ℕ) → layout_at s 0 ≡ done l ds j → bits s ≡ filled (encode l)
unfolding encode
layout_bits s l ds j h =
    let e = went (edition_at s 0) (λ _ s i. next (counts_at s i) (λ c s i. next (routes_at c s i) (λ rs s i. next (filling_at s i) (λ _ s i. done (record { counts = c; routes = rs }) s i)))) l ds j h in
    let a = went (counts_at e.sheet e.place) (λ c s i. next (routes_at c s i) (λ rs s i. next (filling_at s i) (λ _ s i. done (record { counts = c; routes = rs }) s i))) l ds j e.rest in
    let b = went (routes_at a.value a.sheet a.place) (λ rs s i. next (filling_at s i) (λ _ s i. done (record { counts = a.value; routes = rs }) s i)) l ds j a.rest in
    let c = went (filling_at b.sheet b.place) (λ _ s i. done (record { counts = a.value; routes = b.value }) s i) l ds j b.rest in
    let t = counts_took e.sheet e.place a.value a.sheet a.place a.first in
    let u = routes_took a.value a.sheet a.place b.value b.sheet b.place t.1 t.2 b.first in
    let v = took_append (took_append (edition_took s 0 e.sheet e.place e.first) t.0) u in
    full s (record { counts = a.value; routes = b.value }) b.sheet b.place c.sheet c.place v c.first
    ∙ ap (λ x. filled (encode x)) (done_parts c.rest).0

same_plan : {x y : Layout} → accepted x ≡ accepted y → x ≡ y
same_plan {x} {y} h = cc

ruled_same : (l m : Layout) → ruled l ≡ accepted m → l ≡ m
ruled_same l m e =
    let a = no_refusal OneRouteASide (lowest_broken l OneRouteASide) (refuse LeversServe (lowest_broken l LeversServe) (refuse SignalsServe (lowest_broken l SignalsServe) (accepted l))) m e in
    let b = no_refusal LeversServe (lowest_broken l LeversServe) (refuse SignalsServe (lowest_broken l SignalsServe) (accepted l)) m a.1 in
    let c = no_refusal SignalsServe (lowest_broken l SignalsServe) (accepted l) m b.1 in
    same_plan c.1

settled-bits : (s : List ℕ) (x : Read Layout) (l : Layout) → layout_at s 0 ≡ x → settled x ≡ accepted l → bits s ≡ filled (encode l)
settled-bits s (done m ds j) l e h = layout_bits s m ds j e ∙ ap (λ t. filled (encode t)) (ruled_same m l h)
settled-bits s (fault n p) l e h = let z : ◌≡◌ {A = ℕ} 0 1 = cc in absurd (omega arith)

-- a sheet that is accepted is the sheet of its plan
pub round_trip : (s : List ℕ) (l : Layout) → Bytes s → decode s ≡ accepted l → sheet_of l ≡ s
unfolding sheet_of
round_trip s l b h = ap pack (sym (settled-bits s (layout_at s 0) l refl h)) ∙ pack-bits s b

Layout-set : IsSet Layout
Layout-set = Coded-set the_row.coded

-- the sheet of a plan that is not blank says that plan
pub sheet_says : (l : Layout) → Sound l → (l.counts.routes ≡ 0 → ⊥) → decode (sheet_of l) ≡ accepted l
sheet_says l t n =
    ∥∥₁_elim t (Outcome-set Layout-set (Coded-set coded_ℕ) (decode (sheet_of l)) (accepted l)) (λ x. elim x [
      | inl z ↦ absurd (n z)
      | inr p ↦ ap decode (round_trip p.0 l p.1 p.2) ∙ p.2
    ])

-- a sheet at the front of a buffer that has room for it is what writing leaves, and says the plan
module _ (l : Layout) (n : ℕ) (before after : List ℕ) (size : n ≡ length (sheet_of l)) (room : n ≤ length before)
    (some : l.counts.routes ≡ 0 → ⊥) (front : after ≡ sheet_of l ++ drop (length (sheet_of l)) before) where
  pub written_so : wrote n after ≡ writing l before
  written_so =
      let b : eqb l.counts.routes 0 ≡ false = ne_eqb _ _ some in
      let t : leb (length (sheet_of l)) (length before) ≡ true = le-leb _ _ (omega arith) in
      rw (b, t) (cc)

  pub reads_back : Sound l → decode (take n after) ≡ accepted l
  reads_back sound = ap decode (ap (take n) front ∙ take_at (sheet_of l) (drop (length (sheet_of l)) before) n (sym size)) ∙ sheet_says l sound some
