-- Each part of a sheet that was read is the bits that its value is written with.
use Rattle.std.proofs.Common.{◌≡◌, ℕ, zero, suc, ◌+◌, ◌-◌, ◌*◌, ◌<◌, ◌≤◌, Bool, false, cond, ◌&&◌, eqb, ltb, leb, ◌≢◌, List, ◌++◌, length, get_or, set, replicate, Some, None, Option, sym, refl, ap, ◌∙◌, subst, arith}
use Rattle.std.proofs.Math.Nat.{sub-zero}
use Rattle.std.proofs.lemmas.Bool.{and_parts, leb-true, eqb-true}
use Rattle.std.proofs.lemmas.List.{length-set, get_or-set_same, get_or-set_other}
use Rattle.sheet.specs.Bits.{Read, done, fault, next, field_at}
use Rattle.sheet.specs.Fields.{edition_at, count_at, counts_at, number_at, meant, coded_at, demand_at, flag_at, side_at, release_at, fill, demands_at, named_at, route_at}
use Rattle.sheet.specs.Codes.{Agree, side_code, release_code, demand_code, flag_code}
use Rattle.sheet.specs.CodesAgree.{side_agree, release_agree, demand_agree, flag_agree}
use Rattle.sheet.specs.Encode.{bits_of, each, counts_bits, demand_bits, named_bits, route_bits}
use Rattle.sheet.specs.declared.fault.Flaw.TheVariants.{WrongEdition, CountOutside, NumberTooHigh}
use Rattle.sheet.specs.declared.layout.Side.{Side}
use Rattle.sheet.specs.declared.layout.Release.{Release}
use Rattle.sheet.specs.declared.layout.Position.{Position}
use Rattle.sheet.specs.declared.layout.Counts.{Counts}
use Rattle.sheet.specs.declared.layout.Route.{Route}
use Rattle.sheet.proofs.Took.{Took, took_none, took_append, went, kept, field_took, done_parts}

-- the same taking, with another name for its end and its bits
pub took_at : {s ds es : List ℕ} {i j k : ℕ} {xs ys : List ℕ} → Took s ds i j xs → ds ≡ es → j ≡ k → xs ≡ ys → Took s es i k ys
took_at {s} {ds} {es} {i} {j} {k} {xs} {ys} t a b c =
    record { same = sym a ∙ t.same; far = λ h. subst (λ (m : ℕ). m ≤ 8 * length s) b (t.far h); bits = (cc (t.bits, b, c)) }

pub edition_took : (s : List ℕ) (i : ℕ) (ds : List ℕ) (j : ℕ) → edition_at s i ≡ done tt ds j → Took s ds i j (bits_of 4 1)
edition_took s i ds j h =
    let w = went (field_at s i 4) (λ e ds j. cond (eqb e 1) (done tt ds j) (fault WrongEdition i)) tt ds j h in
    let k = kept (eqb w.value 1) (done tt w.sheet w.place) WrongEdition i tt ds j w.rest in
    let r = done_parts k.1 in
    took_at (field_took s i 4 w.value w.sheet w.place w.first).0 r.1 r.2 (ap (bits_of 4) (eqb-true w.value 1 k.0))

count_took : (s : List ℕ) (i k lo hi n : ℕ) (ds : List ℕ) (j : ℕ) → count_at s i k lo hi ≡ done n ds j → Took s ds i j (bits_of k n) × (n ≤ hi)
count_took s i k lo hi n ds j h =
    let w = went (field_at s i k) (λ n ds j. cond (leb lo n && leb n hi) (done n ds j) (fault CountOutside i)) n ds j h in
    let g = kept (leb lo w.value && leb w.value hi) (done w.value w.sheet w.place) CountOutside i n ds j w.rest in
    let r = g.1 in
    let ev : w.value ≡ n = cc in
    let ed : w.sheet ≡ ds = cc in
    let ej : w.place ≡ j = cc in
    let u : w.value ≤ hi = leb-true w.value hi (and_parts (leb lo w.value) (leb w.value hi) g.0).1 in
    (took_at (field_took s i k w.value w.sheet w.place w.first).0 ed ej (ap (bits_of k) ev), omega arith)

number_took : (s : List ℕ) (i k m n : ℕ) (ds : List ℕ) (j : ℕ) → number_at s i k m ≡ done n ds j → Took s ds i j (bits_of k n)
number_took s i k m n ds j h =
    let w = went (field_at s i k) (λ n ds j. cond (ltb n m) (done n ds j) (fault NumberTooHigh i)) n ds j h in
    let r = (kept (ltb w.value m) (done w.value w.sheet w.place) NumberTooHigh i n ds j w.rest).1 in
    let ev : w.value ≡ n = cc in
    let ed : w.sheet ≡ ds = cc in
    let ej : w.place ≡ j = cc in
    took_at (field_took s i k w.value w.sheet w.place w.first).0 ed ej (ap (bits_of k) ev)

-- a field that is a code
meant_parts : {A : Type 0} (x : Option A) (s : List ℕ) (i j : ℕ) (a : A) (ds : List ℕ) (k : ℕ) → meant x s i j ≡ done a ds k → (x ≡ Some a) × (s ≡ ds) × (j ≡ k)
meant_parts (Some b) s i j a ds k h = let e = done_parts h in (ap Some e.0, e.1, e.2)
meant_parts None s i j a ds k h = let z : ◌≡◌ {A = ℕ} 0 1 = cc in absurd (omega arith)

module _ {A : Type 0} {k : ℕ} {code : A → ℕ} {value : ℕ → Option A} (agree : Agree k code value) where
  pub coded_took : (s : List ℕ) (i : ℕ) (a : A) (ds : List ℕ) (j : ℕ) → coded_at k value s i ≡ done a ds j → Took s ds i j (bits_of k (code a))
  coded_took s i a ds j h =
      let w = went (field_at s i k) (λ c s j. meant (value c) s i j) a ds j h in
      let t = field_took s i k w.value w.sheet w.place w.first in
      let m = meant_parts (value w.value) w.sheet i w.place a ds j w.rest in
      took_at t.0 m.1 m.2 (ap (bits_of k) (agree.only w.value a t.1 m.0))

-- a row: its bits are those of its places, and the places before are as they were
module _ {A : Type 0} (one : ℕ → List ℕ → ℕ → Read A) (f : ℕ → A → List ℕ) (d : A) (top : ℕ)
    (took : (k : ℕ) (s : List ℕ) (i : ℕ) (a : A) (ds : List ℕ) (j : ℕ) → k < top → one k s i ≡ done a ds j → Took s ds i j (f k a)) where
  pub fill_took : (s : List ℕ) (i m k : ℕ) (row row' : List A) (ds : List ℕ) (j : ℕ) → k + m ≤ length row → k + m ≤ top → fill one s i m k row ≡ done row' ds j
      → Took s ds i j (each (λ t. f t (get_or row' t d)) m k) × ((t : ℕ) → t < k → get_or row' t d ≡ get_or row t d)
  fill_took s i zero k row row' ds j l b h =
      let er : row ≡ row' = cc in
      let es : s ≡ ds = cc in
      let ei : i ≡ j = cc in
      (took_at (took_none s i) es ei refl, λ t b. ap (λ r. get_or r t d) (sym er))
  fill_took s i (suc m) k row row' ds j l b h =
      let w = went (one k s i) (λ a bs i. fill one bs i m (k + 1) (set row k a)) row' ds j h in
      let a = w.value in
      let r = fill_took w.sheet w.place m (k + 1) (set row k a) row' ds j (omega (arith, length-set row k a)) (omega arith) w.rest in
      let here : get_or row' k d ≡ a = r.1 k (omega arith) ∙ get_or-set_same row k a d (omega arith) in
      let t = took k s i a w.sheet w.place (omega arith) w.first in
      let u : Took s w.sheet i w.place (f k (get_or row' k d)) = subst (λ v. Took s w.sheet i w.place (f k v)) (sym here) t in
      (took_append u r.0, λ t b. let ne : t ≢ k = omega arith in r.1 t (omega arith) ∙ get_or-set_other row k t a d ne)

pub demands_took : (p : ℕ) (s : List ℕ) (i : ℕ) (row : List (Option Position)) (ds : List ℕ) (j : ℕ) → p ≤ 32 → demands_at p s i ≡ done row ds j
    → Took s ds i j (each (demand_bits row) p 0)
demands_took p s i row ds j l h =
    let t = (fill_took (λ k. demand_at) (λ k a. bits_of 2 (demand_code a)) None 32 (λ k s i a ds j b. coded_took demand_agree s i a ds j) s i (p - 0) 0 (replicate 32 None) row ds j (omega arith) (omega arith) h).0 in
    rw sub-zero at t

pub named_took : (n r : ℕ) (s : List ℕ) (i : ℕ) (row : List Bool) (ds : List ℕ) (j : ℕ) → n ≤ 32 → r < n → named_at n r s i ≡ done row ds j
    → Took s ds i j (each (named_bits row) (n - (r + 1)) (r + 1))
named_took n r s i row ds j l b h =
    (fill_took (λ k. flag_at) (λ k a. bits_of 1 (flag_code a)) false 32 (λ k s i a ds j b. coded_took flag_agree s i a ds j) s i (n - (r + 1)) (r + 1) (replicate 32 false) row ds j (omega arith) (omega arith) h).0

pub counts_took : (s : List ℕ) (i : ℕ) (x : Counts) (ds : List ℕ) (j : ℕ) → counts_at s i ≡ done x ds j → Took s ds i j (counts_bits x) × (x.points ≤ 32) × (x.routes ≤ 32)
counts_took s i x ds j h =
    let b = went (count_at s i 6 0 32) (λ p s i. next (count_at s i 6 1 32) (λ g s i. next (count_at s i 5 1 16) (λ v s i. next (count_at s i 6 1 32) (λ n s i. done (record { points = p; signals = g; levers = v; routes = n }) s i)))) x ds j h in
    let c = went (count_at b.sheet b.place 6 1 32) (λ g s i. next (count_at s i 5 1 16) (λ v s i. next (count_at s i 6 1 32) (λ n s i. done (record { points = b.value; signals = g; levers = v; routes = n }) s i))) x ds j b.rest in
    let d = went (count_at c.sheet c.place 5 1 16) (λ v s i. next (count_at s i 6 1 32) (λ n s i. done (record { points = b.value; signals = c.value; levers = v; routes = n }) s i)) x ds j c.rest in
    let e = went (count_at d.sheet d.place 6 1 32) (λ n s i. done (record { points = b.value; signals = c.value; levers = d.value; routes = n }) s i) x ds j d.rest in
    let z = done_parts e.rest in
    let y : Counts = record { points = b.value; signals = c.value; levers = d.value; routes = e.value } in
    let ex : y ≡ x = z.0 in
    let tb = count_took s i 6 0 32 b.value b.sheet b.place b.first in
    let tc = count_took b.sheet b.place 6 1 32 c.value c.sheet c.place c.first in
    let td = count_took c.sheet c.place 5 1 16 d.value d.sheet d.place d.first in
    let te = count_took d.sheet d.place 6 1 32 e.value e.sheet e.place e.first in (
      took_at (took_append tb.0 (took_append tc.0 (took_append td.0 te.0))) z.1 z.2 (ap counts_bits ex),
      subst (λ (z : Counts). z.points ≤ 32) ex tb.1,
      subst (λ (z : Counts). z.routes ≤ 32) ex te.1,
    )

-- one step of a reading whose result is b: sel says where b has what the step read, K what b has of the steps before
stage : {A X : Type 0} (x : Read A) (f : A → List ℕ → ℕ → Read X) (s : List ℕ) (i : ℕ) (E : A → List ℕ) (sel : X → A) (G : X → List ℕ) (K : X → Type 0)
    → ((a : A) (ds : List ℕ) (j : ℕ) → x ≡ done a ds j → Took s ds i j (E a))
    → ((a : A) (ds : List ℕ) (j : ℕ) (b : X) (es : List ℕ) (k : ℕ) → f a ds j ≡ done b es k → Took ds es j k (G b) × ((sel b ≡ a) × K b))
    → (b : X) (es : List ℕ) (k : ℕ) → next x f ≡ done b es k → Took s es i k (E (sel b) ++ G b) × K b
stage x f s i E sel G K first rest b es k h =
    let w = went x f b es k h in
    let r = rest w.value w.sheet w.place b es k w.rest in
    let t = first w.value w.sheet w.place w.first in
    (took_append (took_at t refl refl (ap E (sym r.1.0))) r.0, r.1.1)

-- the last step
stage_end : {A X : Type 0} (x : Read A) (mk : A → X) (s : List ℕ) (i : ℕ) (E : A → List ℕ) (sel : X → A) (K : X → Type 0)
    → ((a : A) (ds : List ℕ) (j : ℕ) → x ≡ done a ds j → Took s ds i j (E a))
    → ((a : A) → (sel (mk a) ≡ a) × K (mk a))
    → (b : X) (es : List ℕ) (k : ℕ) → next x (λ a bs i. done (mk a) bs i) ≡ done b es k → Took s es i k (E (sel b)) × K b
stage_end x mk s i E sel K first made b es k h =
    let w = went x (λ a bs i. done (mk a) bs i) b es k h in
    let p = done_parts w.rest in
    let t = first w.value w.sheet w.place w.first in
    (took_at t p.1 p.2 (ap E (sym (made w.value).0 ∙ ap sel p.0)), subst K p.0 (made w.value).1)

module _ (h : Counts) (r : ℕ) (lp : h.points ≤ 32) (ln : h.routes ≤ 32) (lr : r < h.routes) where
  abbrev whole_of : ℕ → Side → ℕ → Release → List (Option Position) → List Bool → Route
  whole_of a b c d e f = record { lever = a; side = b; signal = c; release = d; demands = e; named = f }

  abbrev step6 : ℕ → Side → ℕ → Release → List (Option Position) → List ℕ → ℕ → Read Route
  step6 a b c d e s i = next (named_at h.routes r s i) (λ f s i. done (whole_of a b c d e f) s i)

  abbrev step5 : ℕ → Side → ℕ → Release → List ℕ → ℕ → Read Route
  step5 a b c d s i = next (demands_at h.points s i) (λ e s i. step6 a b c d e s i)

  abbrev step4 : ℕ → Side → ℕ → List ℕ → ℕ → Read Route
  step4 a b c s i = next (release_at s i) (λ d s i. step5 a b c d s i)

  abbrev step3 : ℕ → Side → List ℕ → ℕ → Read Route
  step3 a b s i = next (number_at s i 5 h.signals) (λ c s i. step4 a b c s i)

  abbrev step2 : ℕ → List ℕ → ℕ → Read Route
  step2 a s i = next (side_at s i) (λ b s i. step3 a b s i)

  abbrev bits6 : Route → List ℕ
  bits6 x = each (named_bits x.named) (h.routes - (r + 1)) (r + 1)

  abbrev bits5 : Route → List ℕ
  bits5 x = each (demand_bits x.demands) h.points 0 ++ bits6 x

  abbrev bits4 : Route → List ℕ
  bits4 x = bits_of 1 (release_code x.release) ++ bits5 x

  abbrev bits3 : Route → List ℕ
  bits3 x = bits_of 5 x.signal ++ bits4 x

  abbrev bits2 : Route → List ℕ
  bits2 x = bits_of 1 (side_code x.side) ++ bits3 x

  took6 : (a : ℕ) (b : Side) (c : ℕ) (d : Release) (e : List (Option Position)) (s : List ℕ) (i : ℕ) (x : Route) (ds : List ℕ) (j : ℕ) → step6 a b c d e s i ≡ done x ds j
      → Took s ds i j (bits6 x) × ((x.demands ≡ e) × ((x.release ≡ d) × ((x.signal ≡ c) × ((x.side ≡ b) × ((x.lever ≡ a) × Unit {0})))))
  took6 a b c d e s i x ds j q =
      stage_end (named_at h.routes r s i) (whole_of a b c d e) s i (λ row. each (named_bits row) (h.routes - (r + 1)) (r + 1)) (λ x. x.named)
      (λ x. (x.demands ≡ e) × ((x.release ≡ d) × ((x.signal ≡ c) × ((x.side ≡ b) × ((x.lever ≡ a) × Unit {0})))))
      (λ row ds j q. named_took h.routes r s i row ds j ln lr q)
      (λ f. (refl, (refl, (refl, (refl, (refl, (refl, tt)))))))
      x ds j q

  took5 : (a : ℕ) (b : Side) (c : ℕ) (d : Release) (s : List ℕ) (i : ℕ) (x : Route) (ds : List ℕ) (j : ℕ) → step5 a b c d s i ≡ done x ds j
      → Took s ds i j (bits5 x) × ((x.release ≡ d) × ((x.signal ≡ c) × ((x.side ≡ b) × ((x.lever ≡ a) × Unit {0}))))
  took5 a b c d s i x ds j q =
      stage (demands_at h.points s i) (step6 a b c d) s i (λ row. each (demand_bits row) h.points 0) (λ x. x.demands) bits6
      (λ x. (x.release ≡ d) × ((x.signal ≡ c) × ((x.side ≡ b) × ((x.lever ≡ a) × Unit {0}))))
      (λ row ds j q. demands_took h.points s i row ds j lp q) (took6 a b c d) x ds j q

  took4 : (a : ℕ) (b : Side) (c : ℕ) (s : List ℕ) (i : ℕ) (x : Route) (ds : List ℕ) (j : ℕ) → step4 a b c s i ≡ done x ds j
      → Took s ds i j (bits4 x) × ((x.signal ≡ c) × ((x.side ≡ b) × ((x.lever ≡ a) × Unit {0})))
  took4 a b c s i x ds j q =
      stage (release_at s i) (step5 a b c) s i (λ d. bits_of 1 (release_code d)) (λ x. x.release) bits5
      (λ x. (x.signal ≡ c) × ((x.side ≡ b) × ((x.lever ≡ a) × Unit {0})))
      (coded_took release_agree s i) (took5 a b c) x ds j q

  took3 : (a : ℕ) (b : Side) (s : List ℕ) (i : ℕ) (x : Route) (ds : List ℕ) (j : ℕ) → step3 a b s i ≡ done x ds j
      → Took s ds i j (bits3 x) × ((x.side ≡ b) × ((x.lever ≡ a) × Unit {0}))
  took3 a b s i x ds j q =
      stage (number_at s i 5 h.signals) (step4 a b) s i (bits_of 5) (λ x. x.signal) bits4
      (λ x. (x.side ≡ b) × ((x.lever ≡ a) × Unit {0}))
      (number_took s i 5 h.signals) (took4 a b) x ds j q

  took2 : (a : ℕ) (s : List ℕ) (i : ℕ) (x : Route) (ds : List ℕ) (j : ℕ) → step2 a s i ≡ done x ds j
      → Took s ds i j (bits2 x) × ((x.lever ≡ a) × Unit {0})
  took2 a s i x ds j q =
      stage (side_at s i) (step3 a) s i (λ b. bits_of 1 (side_code b)) (λ x. x.side) bits3
      (λ x. (x.lever ≡ a) × Unit {0})
      (coded_took side_agree s i) (took3 a) x ds j q

  pub route_took : (s : List ℕ) (i : ℕ) (x : Route) (ds : List ℕ) (j : ℕ) → route_at h r s i ≡ done x ds j → Took s ds i j (route_bits h x r)
  route_took s i x ds j q =
      (stage (number_at s i 4 h.levers) step2 s i (bits_of 4) (λ x. x.lever) bits2 (λ x. Unit {0})
      (number_took s i 4 h.levers) took2 x ds j q).0
