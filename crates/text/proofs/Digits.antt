-- Numbers, digit by digit.
use Rattle.std.proofs.Common.{◌≡◌, ℕ, ◌+◌, ◌-◌, ◌*◌, ◌<◌, ◌≤◌, Bool, true, false, cond, ◌&&◌, leb, List, [], ◌∷◌, length, get_or, drop, Some, None, Option, sym, refl, ◌∙◌, arith}
use Rattle.std.proofs.lemmas.List.{at_drop_more, at_drop_all}
use Rattle.std.proofs.lemmas.Bool.{le-leb, lt-leb}
use Rattle.text.specs.Numerals.{all_digits, is_digit, spelled}

-- what the digits that are left make of the number so far
abbrev pub read_on : ℕ → ℕ → List ℕ → Option ℕ
read_on most n bs = cond (all_digits bs && leb (spelled n bs) most) (Some (spelled n bs)) None

-- more digits make no number smaller
grows : (n : ℕ) (bs : List ℕ) → n ≤ spelled n bs
grows n [] = omega arith
grows n (b ∷ bs) = let g = grows (n * 10 + (b - 48)) bs in omega arith

module _ (most n : ℕ) (xs : List ℕ) (i : ℕ) (h : i < length xs) where
  pub digit_more : is_digit (get_or xs i 0) ≡ true → read_on most n (drop i xs) ≡ read_on most (n * 10 + (get_or xs i 0 - 48)) (drop (i + 1) xs)
  digit_more d = at_drop_more (read_on most n) xs i 0 h ∙ rw d

and_none : (t : Bool) (n : ℕ) → cond (t && false) (Some n) None ≡ None
and_none true n = refl
and_none false n = refl

-- over the most, whatever follows
pub over : (most n : ℕ) (bs : List ℕ) → most < n → read_on most n bs ≡ None
over most n bs h = let g = grows n bs in let t = lt-leb (spelled n bs) most (omega arith) in rw t (and_none (all_digits bs) (spelled n bs))

pub digits_end : (most n : ℕ) (xs : List ℕ) (i : ℕ) → length xs ≤ i → n ≤ most → Some n ≡ read_on most n (drop i xs)
digits_end most n xs i h k = let t = le-leb n most k in sym (at_drop_all (read_on most n) xs i h ∙ rw t)
