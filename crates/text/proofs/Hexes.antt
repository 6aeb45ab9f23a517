-- Hex digits, a byte at a time.
use Rattle.std.proofs.Common.{◌≡◌, ℕ, List, [], ◌∷◌, ◌++◌, length, get_or, Some, None, Option, sym, refl, ap, arith}
use Rattle.std.proofs.lemmas.List.{append_assoc}
use Rattle.text.specs.Hex.{byte_of, in_front, bytes_of}

-- the bytes so far, and then what is left gives
abbrev pub after : List ℕ → Option (List ℕ) → Option (List ℕ)
after bs None = None
after bs (Some more) = Some (bs ++ more)

two : (pair rest : List ℕ) → length pair ≡ 2 → bytes_of (pair ++ rest) ≡ in_front (byte_of (get_or pair 0 0) (get_or pair 1 0)) (bytes_of rest)
two [] rest l = absurd (omega arith)
two (a ∷ []) rest l = absurd (omega arith)
two (a ∷ b ∷ []) rest l = refl
two (a ∷ b ∷ c ∷ more) rest l = absurd (omega arith)

one_more : (bs : List ℕ) (b : ℕ) (o : Option (List ℕ)) → after bs (in_front (Some b) o) ≡ after (bs ++ b ∷ []) o
one_more bs b None = refl
one_more bs b (Some more) = ap (λ (ys : List ℕ). Some ys) (sym (append_assoc bs (b ∷ []) more))

-- a byte more, of the first two digits of what is left
pub pair_more : (bs now pair rest left : List ℕ) (b : ℕ) → left ≡ pair ++ rest → length pair ≡ 2 → Some b ≡ byte_of (get_or pair 0 0) (get_or pair 1 0) → now ≡ bs ++ b ∷ []
    → after now (bytes_of rest) ≡ after bs (bytes_of left)
pair_more bs now pair rest left b cut l e n = let t = two pair rest l in let m = one_more bs b (bytes_of rest) in cc
