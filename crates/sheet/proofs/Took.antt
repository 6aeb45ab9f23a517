-- What a reading took: the bits of a sheet from where it began to where it ended.
use Rattle.std.proofs.Common.{◌≡◌, ℕ, zero, suc, ◌+◌, ◌*◌, ◌/◌, ◌%◌, ◌^◌, ◌<◌, ◌≤◌, Bool, true, false, cond, List, [], ◌∷◌, ◌++◌, length, get_or, take, sym, refl, ap, ◌∙◌, subst, add-zero, arith}
use native.Mathlib.Nat.{zero-div}
use Rattle.std.proofs.lemmas.Nat.{shr-shr}
use Rattle.std.proofs.lemmas.Bool.{leb-true}
use Rattle.std.proofs.lemmas.List.{take_more, append_assoc, append-nil}
use Rattle.sheet.specs.Bits.{bit_of, value_of, whole, Read, done, fault, next, field_at}
use Rattle.sheet.specs.declared.fault.Flaw.{Flaw}
use Rattle.sheet.specs.declared.fault.Flaw.TheVariants.{EndsInside}
use Rattle.sheet.specs.Encode.{bits_of}
use Rattle.sheet.proofs.Values.{bit_lt, value_lt}

-- the bits of bytes
abbrev pub bits : List ℕ → List ℕ
bits [] = []
bits (b ∷ s) = bits_of 8 b ++ bits s

pub length-bits_of : (s : List ℕ) → length (bits s) ≡ 8 * length s
length-bits_of [] = refl
length-bits_of (b ∷ s) = omega (arith, length-bits_of s)

pub get_d_bits : (s : List ℕ) (i : ℕ) → get_or (bits s) i 0 ≡ bit_of s i
get_d_bits [] i = rw zero-div
get_d_bits (b ∷ s) zero = refl
get_d_bits (b ∷ s) (suc zero) = refl
get_d_bits (b ∷ s) (suc (suc zero)) = refl
get_d_bits (b ∷ s) (suc (suc (suc zero))) = refl
get_d_bits (b ∷ s) (suc (suc (suc (suc zero)))) = refl
get_d_bits (b ∷ s) (suc (suc (suc (suc (suc zero))))) = refl
get_d_bits (b ∷ s) (suc (suc (suc (suc (suc (suc zero)))))) = refl
get_d_bits (b ∷ s) (suc (suc (suc (suc (suc (suc (suc zero))))))) = refl
get_d_bits (b ∷ s) (suc (suc (suc (suc (suc (suc (suc (suc i)))))))) =
    let n : ℕ = suc (suc (suc (suc (suc (suc (suc (suc i))))))) in
    let d : n / 8 ≡ suc (i / 8) = omega arith in
    let m : n % 8 ≡ i % 8 = omega arith in
    get_d_bits s i ∙ sym (rw (d, m))

-- the first i bits
abbrev pub up_to : List ℕ → ℕ → List ℕ
up_to s i = take i (bits s)

pub up_to_more : (s : List ℕ) (i : ℕ) → i < 8 * length s → up_to s (i + 1) ≡ up_to s i ++ bit_of s i ∷ []
up_to_more s i h =
    let l : i < length (bits s) = omega (arith, length-bits_of s) in
    take_more (bits s) i 0 l ∙ ap (λ b. up_to s i ++ b ∷ []) (get_d_bits s i)

-- the last bit apart
pub bits_last : (k v : ℕ) → bits_of (suc k) v ≡ bits_of k (v / 2) ++ v % 2 ∷ []
bits_last zero v = let e : v / 1 ≡ v = omega arith in rw e
bits_last (suc k) v =
    let e : v / 2 / 2 ^ k ≡ v / 2 ^ (1 + k) = shr-shr v 1 k in
    let f : 1 + k ≡ suc k = omega arith in
    let g : v / 2 / 2 ^ k ≡ v / 2 ^ suc k = e ∙ ap (λ (n : ℕ). v / 2 ^ n) f in
    let r = bits_last k v in
    (cc (ap (λ (n : ℕ). n % 2) g))

pub field_up_to : (s : List ℕ) (i k : ℕ) → i + k ≤ 8 * length s → up_to s (i + k) ≡ up_to s i ++ bits_of k (value_of s i k)
field_up_to s i zero h = rw (add-zero, append-nil)
field_up_to s i (suc k) h =
    let e : i + suc k ≡ i + k + 1 = omega arith in
    let v : (value_of s i k * 2 + bit_of s (i + k)) / 2 ≡ value_of s i k = omega (arith, bit_lt s (i + k)) in
    let w : (value_of s i k * 2 + bit_of s (i + k)) % 2 ≡ bit_of s (i + k) = omega (arith, bit_lt s (i + k)) in
    let m = up_to_more s (i + k) (omega arith) in
    let r = field_up_to s i k (omega arith) in
    let a = append_assoc (up_to s i) (bits_of k (value_of s i k)) (bit_of s (i + k) ∷ []) in
    let b = bits_last k (value_of s i (suc k)) in
    ap (up_to s) e ∙ (m ∙ (ap (λ t. t ++ bit_of s (i + k) ∷ []) r ∙ (a ∙ ap (λ t. up_to s i ++ t) (sym (b ∙ (cc (v, w)))))))

-- what a reading took: xs are the bits from i to j
pub record Took (s ds : List ℕ) (i j : ℕ) (xs : List ℕ) : Type 0 where
  pub same : ds ≡ s
  pub far : i ≤ 8 * length s → j ≤ 8 * length s
  pub bits : up_to s j ≡ up_to s i ++ xs

pub took_none : (s : List ℕ) (i : ℕ) → Took s s i i []
took_none s i = record { same = refl; far = λ h. h; bits = sym (append-nil (up_to s i)) }

pub took_append : {s ds es : List ℕ} {i j k : ℕ} {xs ys : List ℕ} → Took s ds i j xs → Took ds es j k ys → Took s es i k (xs ++ ys)
took_append {s} {ds} {es} {i} {j} {k} {xs} {ys} a b =
    let P : List ℕ → Type 0 = λ t. Took t es j k ys in
    let c : Took s es j k ys = subst P a.same b in
    record {
      same = c.same;
      far = λ h. c.far (a.far h);
      bits = c.bits ∙ (ap (λ t. t ++ ys) a.bits ∙ append_assoc (up_to s i) xs ys);
    }

-- a step that went well: its first part, and the rest
pub record Went {A B : Type 0} (x : Read A) (f : A → List ℕ → ℕ → Read B) (r : Read B) : Type 0 where
  pub value : A
  pub sheet : List ℕ
  pub place : ℕ
  pub first : x ≡ done value sheet place
  pub rest : f value sheet place ≡ r

pub went : {A B : Type 0} (x : Read A) (f : A → List ℕ → ℕ → Read B) (b : B) (es : List ℕ) (k : ℕ) → next x f ≡ done b es k → Went x f (done b es k)
went (done a ds j) f b es k h = record { value = a; sheet = ds; place = j; first = refl; rest = h }
went (fault n p) f b es k h = let z : ◌≡◌ {A = ℕ} 0 1 = cc in absurd (omega arith)

-- a test that went well
pub kept : {A : Type 0} (t : Bool) (x : Read A) (n : Flaw) (p : ℕ) (b : A) (es : List ℕ) (k : ℕ) → cond t x (fault n p) ≡ done b es k → (t ≡ true) × (x ≡ done b es k)
kept true x n p b es k h = (refl, h)
kept false x n p b es k h = let z : ◌≡◌ {A = ℕ} 0 1 = cc in absurd (omega arith)

pub field_took : (s : List ℕ) (i k v : ℕ) (ds : List ℕ) (j : ℕ) → field_at s i k ≡ done v ds j → Took s ds i j (bits_of k v) × (v < 2 ^ k)
field_took s i k v ds j h =
    let a = kept (whole s i k) (done (value_of s i k) s (i + k)) EndsInside i v ds j h in
    let l : i + k ≤ 8 * length s = leb-true (i + k) (8 * length s) a.0 in
    let e : done (value_of s i k) s (i + k) ≡ done v ds j = a.1 in
    let ev : value_of s i k ≡ v = cc in
    let es : s ≡ ds = cc in
    let ej : i + k ≡ j = cc in
    let f = field_up_to s i k l in
    (record { same = sym es; far = λ g. omega arith; bits = ap (up_to s) (sym ej) ∙ (f ∙ ap (λ t. up_to s i ++ bits_of k t) ev) }, rw ev at (value_lt s i k))

pub done_parts : {A : Type 0} {a b : A} {s t : List ℕ} {i j : ℕ} → done a s i ≡ done b t j → (a ≡ b) × (s ≡ t) × (i ≡ j)
done_parts {A} {a} {b} {s} {t} {i} {j} h = ((cc), (cc), (cc))
