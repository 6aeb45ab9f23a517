-- Calls into a book, line by line.
use Rattle.std.proofs.Common.{◌≡◌, ℕ, suc, ◌+◌, ◌-◌, ◌<◌, true, ltb, leb, List, [], ◌∷◌, length, Ok, ⊎_elim, arith}
use Rattle.std.proofs.lemmas.List.{length-set}
use Rattle.std.proofs.lemmas.Bool.{cases_lt, le-ltb, lt-ltb}
use Rattle.std.proofs.lemmas.Bool.Decides.{nat_tests}
use Rattle.basics.proofs.Adds.{count_joined, count-one, rows_joined, rows_one}
use Rattle.basics.specs.Books.{add_answer, count_after, count_with, rows_after, rows_with}
use Rattle.frame.specs.declared.entry.Entry.{Entry}
use Rattle.listing.specs.Calls.{noting_answer}

has_room_lem : (xs : List Entry) (n : ℕ) → Ok tt ≡ add_answer xs n → n < length xs
has_room_lem xs n e = ⊎_elim (λ h. h) (λ h. let b = le-ltb n (length xs) h in let z : ◌≡◌ {A = ℕ} 0 1 = cc in absurd (omega arith)) (cases_lt n (length xs))

one_less : (a b c : ℕ) → c < b → leb a (b - (c + 1)) ≡ leb (suc a) (b - c)
one_less a b c h = grind (arith, nat_tests)

-- one call and then others, in a book that has room for the one or not
module _ (xs : List Entry) (n : ℕ) (y : Entry) (ys zs xs' : List Entry) (n' : ℕ) (e : ys ≡ y ∷ zs) (w : xs' ≡ rows_with xs n y) (f : n' ≡ count_with xs n) where
  rows_more : rows_after xs' n' zs ≡ rows_after xs n ys
  rows_more = let a = rows_one xs n y in let b = count-one xs n y in let j = rows_joined xs n (y ∷ []) zs in cc

  count_more : count_after xs' n' zs ≡ count_after xs n ys
  count_more = let a = rows_one xs n y in let b = count-one xs n y in let j = count_joined xs n (y ∷ []) zs in cc

  answer_more : Ok tt ≡ add_answer xs n → noting_answer xs' n' zs ≡ noting_answer xs n ys
  answer_more o =
      let h = has_room_lem xs n o in
      let b : ltb n (length xs) ≡ true = lt-ltb n (length xs) h in
      let l = length-set xs n y in
      let t = one_less (length zs) (length xs) n h in
      rw (w, f, e, b, l) (rw t)

  pub noted_more : Ok tt ≡ add_answer xs n
      → (noting_answer xs' n' zs ≡ noting_answer xs n ys) × (rows_after xs' n' zs ≡ rows_after xs n ys) × (count_after xs' n' zs ≡ count_after xs n ys)
  noted_more o = (answer_more o, rows_more, count_more)
