-- Lines, line by line.
use Rattle.std.proofs.Common.{◌≡◌, ℕ, suc, ◌+◌, ◌-◌, ◌<◌, ◌≤◌, Bool, true, false, cond, List, [], ◌∷◌, length, take, drop, Some, None, sym, refl, ap, ◌∙◌, arith}
use Rattle.std.proofs.lemmas.List.{drop_all, take_all, take_rest}
use Rattle.std.specs.List.{onto_first, position, position_or_len}
use native.Mathlib.Numerals.{unary_clauses}
use Rattle.text.specs.Lines.{after_first_line, first_line, is_newline, lines_of}

found : (t : Bool) (n i : ℕ) → Some i ≡ cond t (Some n) None → i ≡ n
found true n i e = cc
found false n i e = let z : ◌≡◌ {A = ℕ} 0 1 = cc in absurd (omega arith)

sought : (t : Bool) (n : ℕ) → None ≡ cond t (Some n) None → t ≡ false
sought true n e = let z : ◌≡◌ {A = ℕ} 0 1 = cc in absurd (omega arith)
sought false n e = refl

module _ (xs : List ℕ) where
  place : (i : ℕ) → Some i ≡ position is_newline xs → i ≡ position_or_len is_newline xs
  place i e = found _ (position_or_len is_newline xs) i e

  pub at_newline : (i : ℕ) → Some i ≡ position is_newline xs → take i xs ≡ first_line xs
  at_newline i e = ap (λ n. take n xs) (place i e)

  pub past_newline : (i : ℕ) → Some i ≡ position is_newline xs → take (length xs - (i + 1)) (drop (i + 1) xs) ≡ after_first_line xs
  past_newline i e = take_rest xs (i + 1) ∙ ap (λ n. drop (n + 1) xs) (place i e)

  past_end : None ≡ position is_newline xs → length xs ≤ position_or_len is_newline xs
  past_end e = let t = sought _ (position_or_len is_newline xs) e in grind (arith)

  pub whole : None ≡ position is_newline xs → xs ≡ first_line xs
  whole e = sym (take_all (position_or_len is_newline xs) xs (past_end e))

  pub nothing : None ≡ position is_newline xs → [] ≡ after_first_line xs
  nothing e = let h = past_end e in sym (drop_all (position_or_len is_newline xs + 1) xs (omega arith))

-- a byte more in front of a first line of n bytes
one_more : (b n : ℕ) (cs : List ℕ) (ls : List (List ℕ)) → ls ≡ take n cs ∷ lines_of (drop (n + 1) cs) → onto_first b ls ≡ take (1 + n) (b ∷ cs) ∷ lines_of (drop (1 + n + 1) (b ∷ cs))
one_more b n cs ls e = let k : 1 + n ≡ suc n = omega arith in rw (e, k) (simp unary_clauses refl)

abbrev Split : List ℕ → Type 0
Split bs = lines_of bs ≡ first_line bs ∷ lines_of (after_first_line bs)

split_one : (t : Bool) (b : ℕ) → is_newline b ≡ t → Split (b ∷ [])
split_one true b e = rw e refl
split_one false b e = rw e refl

split_more : (t : Bool) (b c : ℕ) (bs : List ℕ) → is_newline b ≡ t → Split (c ∷ bs) → Split (b ∷ c ∷ bs)
split_more true b c bs e ih = rw e refl
split_more false b c bs e ih = rw e (one_more b (position_or_len is_newline (c ∷ bs)) (c ∷ bs) (lines_of (c ∷ bs)) ih)

-- a text that is not empty is its first line, and then the lines of what follows
pub split : (bs : List ℕ) → 0 < length bs → Split bs
split [] h = absurd (omega arith)
split (b ∷ []) h = split_one (is_newline b) b refl
split (b ∷ c ∷ bs) h = split_more (is_newline b) b c bs refl (split (c ∷ bs) (omega arith))
