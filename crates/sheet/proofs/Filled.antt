-- Rows that are filled item by item, and zeros that are passed one by one.
use Rattle.std.proofs.Common.{◌≡◌, ℕ, zero, suc, ◌+◌, ◌-◌, ◌*◌, ◌<◌, ◌≤◌, mul-suc, Bool, true, false, not, cond, eqb, List, ◌++◌, length, set, Some, None, Option, add-zero, sym, ap, ◌∙◌, arith}
use Rattle.std.proofs.lemmas.List.{set-append_left}
use Rattle.std.specs.List.{find, range_with_len}
use Rattle.std.specs.Option.{MatchOption}
use Rattle.sheet.specs.Bits.{Read, done, fault, bit_of}
use Rattle.sheet.specs.Fields.{fill, zeros_at}
use Rattle.sheet.specs.declared.fault.Flaw.{Flaw}
use Rattle.sheet.specs.declared.fault.Flaw.TheVariants.{BadFilling}

module _ {A : Type 0} (one : ℕ → List ℕ → ℕ → Read A) (s : List ℕ) (i n k : ℕ) (row : List A) where
  -- one item more
  pub fill_more : (a : A) (t : List ℕ) (j : ℕ) → k < n → done a t j ≡ one k s i
      → fill one s i (n - k) k row ≡ fill one t j (n - (k + 1)) (k + 1) (set row k a)
  fill_more a t j h e = let m : n - k ≡ suc (n - (k + 1)) = omega arith in rw (m, ← e)

  -- a fault at an item
  pub fill_stop : (w : Flaw) (p : ℕ) → k < n → fault w p ≡ one k s i → fill one s i (n - k) k row ≡ fault w p
  fill_stop w p h e = let m : n - k ≡ suc (n - (k + 1)) = omega arith in rw (m, ← e)

  -- one item more in front of others
  pub front_more : (tail : List A) (a : A) (t : List ℕ) (j : ℕ) → k < n → k < length row → done a t j ≡ one k s i
      → fill one t j (n - (k + 1)) (k + 1) (set row k a ++ tail) ≡ fill one s i (n - k) k (row ++ tail)
  front_more tail a t j h l e =
      ap (fill one t j (n - (k + 1)) (k + 1)) (sym (set-append_left row tail k a l))
      ∙ sym (let m : n - k ≡ suc (n - (k + 1)) = omega arith in rw (m, ← e))

-- one item more of a width
pub wider : (w start k : ℕ) → start ≤ k → w * (k + 1 - start) ≡ w * (k - start) + w
wider w start k h = let e : k + 1 - start ≡ suc (k - start) = omega arith in rw (e, mul-suc)

-- what the first filling bit that is set says of them all
abbrev pub is_set : List ℕ → ℕ → Bool
is_set s i = not (eqb (bit_of s i) 0)

zeros_found : (s : List ℕ) (i m p : ℕ) → find (is_set s) (range_with_len i m) ≡ Some p → zeros_at s i m ≡ fault BadFilling p
zeros_found s i zero p h = cc
zeros_found s i (suc m) p h =
    let step : (b : Bool) → cond (not b) (Some i) (find (is_set s) (range_with_len (i + 1) m)) ≡ Some p → cond b (zeros_at s (i + 1) m) (fault BadFilling i) ≡ fault BadFilling p =
    elim [ true ↦ zeros_found s (i + 1) m p | false ↦ λ e. (cc) ] in
    step (eqb (bit_of s i) 0) h

zeros_passed : (s : List ℕ) (i m : ℕ) → find (is_set s) (range_with_len i m) ≡ None → zeros_at s i m ≡ zeros_at s (i + m) 0
zeros_passed s i zero h = rw add-zero
zeros_passed s i (suc m) h =
    let next : i + suc m ≡ (i + 1) + m = omega arith in
    let step : (b : Bool) → cond (not b) (Some i) (find (is_set s) (range_with_len (i + 1) m)) ≡ None → cond b (zeros_at s (i + 1) m) (fault BadFilling i) ≡ zeros_at s ((i + 1) + m) 0 =
    elim [ true ↦ zeros_passed s (i + 1) m | false ↦ λ e. (cc) ] in
    rw next (step (eqb (bit_of s i) 0) h)

pub zeros_by : (s : List ℕ) (i end : ℕ) (o : Option ℕ) → i ≤ end → find (is_set s) (range_with_len i (end - i)) ≡ o
    → MatchOption o (zeros_at s i (end - i) ≡ zeros_at s end 0) (λ p. zeros_at s i (end - i) ≡ fault BadFilling p)
zeros_by s i end (Some p) h e = zeros_found s i (end - i) p e
zeros_by s i end None h e = let here : i + (end - i) ≡ end = omega arith in zeros_passed s i (end - i) e ∙ ap (λ j. zeros_at s j 0) here
