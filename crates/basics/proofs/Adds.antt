-- Entries into a book, one after the other.
use Rattle.std.proofs.Common.{◌≡◌, ℕ, suc, ◌+◌, ◌-◌, true, false, ltb, List, [], ◌∷◌, ◌++◌, length, take, drop, set, sym, refl, subst, ◌∙◌, ⊎_elim, arith}
use Rattle.std.proofs.lemmas.List.{append_assoc, take_all, take-append-drop, take_more_set, drop-set-lt, drop_all, length-set}
use Rattle.std.proofs.lemmas.Bool.{cases_lt, lt-ltb, le-ltb}
use Rattle.basics.specs.Books.{rows_with, count_with, rows_after, count_after}
use Rattle.basics.specs.Adding.{Added}
use Rattle.basics.specs.declared.book.Book.{Book}

module _ {X : Type 0} where
  take_none : (m : ℕ) → take {A = X} m [] ≡ []
  take_none m = take_all m [] (omega arith)

  -- no entry
  pub rows_none : (xs : List X) (n : ℕ) → rows_after xs n [] ≡ xs
  rows_none xs n = let t = take_none (length xs - n) in let z : n + 0 ≡ n = omega arith in rw (t, z) (take-append-drop n xs)

  pub count_none : (xs : List X) (n : ℕ) → count_after xs n [] ≡ n
  count_none xs n = let t = take_none (length xs - n) in rw t (omega arith)

  -- the first entry
  rows_first : (xs : List X) (n : ℕ) (y : X) (ys : List X) → rows_after xs n (y ∷ ys) ≡ rows_after (rows_with xs n y) (count_with xs n) ys
  rows_first xs n y ys =
      ⊎_elim
      (λ h.
      let b : ltb n (length xs) ≡ true = lt-ltb n (length xs) h in
      let m : length xs - n ≡ suc (length xs - (n + 1)) = omega arith in
      let w : length (set xs n y) ≡ length xs = length-set xs n y in
      let t = take_more_set xs n y h in
      let d = drop-set-lt ((n + 1) + length ys) xs n y (omega arith) in
      let q : n + suc (length ys) ≡ (n + 1) + length ys = omega arith in
      let a = append_assoc (take n xs) (y ∷ []) (take (length xs - (n + 1)) ys ++ drop ((n + 1) + length ys) xs) in
      rw (b, m, w, t, d, q) (sym a))
      (λ h.
      let b : ltb n (length xs) ≡ false = le-ltb n (length xs) h in
      let m : length xs - n ≡ 0 = omega arith in
      let d = drop_all (n + suc (length ys)) xs (omega arith) in
      let e = drop_all (n + length ys) xs (omega arith) in
      rw (b, m, d, e))
      (cases_lt n (length xs))

  count_first : (xs : List X) (n : ℕ) (y : X) (ys : List X) → count_after xs n (y ∷ ys) ≡ count_after (rows_with xs n y) (count_with xs n) ys
  count_first xs n y ys =
      ⊎_elim
      (λ h.
      let b : ltb n (length xs) ≡ true = lt-ltb n (length xs) h in
      let m : length xs - n ≡ suc (length xs - (n + 1)) = omega arith in
      let w : length (set xs n y) ≡ length xs = length-set xs n y in
      rw (b, m, w) (omega arith))
      (λ h.
      let b : ltb n (length xs) ≡ false = le-ltb n (length xs) h in
      let m : length xs - n ≡ 0 = omega arith in
      rw (b, m))
      (cases_lt n (length xs))

  -- one entry
  pub rows_one : (xs : List X) (n : ℕ) (y : X) → rows_with xs n y ≡ rows_after xs n (y ∷ [])
  rows_one xs n y = sym (rows_first xs n y [] ∙ rows_none (rows_with xs n y) (count_with xs n))

  pub count-one : (xs : List X) (n : ℕ) (y : X) → count_with xs n ≡ count_after xs n (y ∷ [])
  count-one xs n y = sym (count_first xs n y [] ∙ count_none (rows_with xs n y) (count_with xs n))

  -- some entries, and then others
  pub rows_joined : (xs : List X) (n : ℕ) (ys zs : List X) → rows_after (rows_after xs n ys) (count_after xs n ys) zs ≡ rows_after xs n (ys ++ zs)
  rows_joined xs n [] zs = let a = rows_none xs n in let b = count_none xs n in rw (a, b)
  rows_joined xs n (y ∷ ys) zs =
      let a = rows_first xs n y ys in
      let b = count_first xs n y ys in
      let c = rows_first xs n y (ys ++ zs) in
      let d = rows_joined (rows_with xs n y) (count_with xs n) ys zs in
      rw (a, b, c) d

  pub count_joined : (xs : List X) (n : ℕ) (ys zs : List X) → count_after (rows_after xs n ys) (count_after xs n ys) zs ≡ count_after xs n (ys ++ zs)
  count_joined xs n [] zs = let a = rows_none xs n in let b = count_none xs n in rw (a, b)
  count_joined xs n (y ∷ ys) zs =
      let a = rows_first xs n y ys in
      let b = count_first xs n y ys in
      let c = count_first xs n y (ys ++ zs) in
      let d = count_joined (rows_with xs n y) (count_with xs n) ys zs in
      rw (a, b, c) d

  -- entries into a book that has had others
  pub rows_then : (xs : List X) (n : ℕ) (ys zs xs' xs'' : List X) (n' : ℕ) → xs' ≡ rows_after xs n ys → n' ≡ count_after xs n ys → xs'' ≡ rows_after xs' n' zs → xs'' ≡ rows_after xs n (ys ++ zs)
  rows_then xs n ys zs xs' xs'' n' a b c = let j = rows_joined xs n ys zs in cc

  pub count_then : (xs : List X) (n : ℕ) (ys zs xs' : List X) (n' n'' : ℕ) → xs' ≡ rows_after xs n ys → n' ≡ count_after xs n ys → n'' ≡ count_after xs' n' zs → n'' ≡ count_after xs n (ys ++ zs)
  count_then xs n ys zs xs' n' n'' a b c = let j = count_joined xs n ys zs in cc

  -- no entry, what `add` ensures, and some entries and then others
  pub added_none : (a : Book X) → Added a a []
  added_none a = record { written = sym (rows_none a.rows.now a.count); filled = sym (count_none a.rows.now a.count); lender = refl }

  pub added_one : (a b : Book X) (y : X) → b.rows.now ≡ rows_with a.rows.now a.count y → b.count ≡ count_with a.rows.now a.count → b.rows.ghost_name ≡ a.rows.ghost_name → Added a b (y ∷ [])
  added_one a b y w f l = record { written = w ∙ rows_one a.rows.now a.count y; filled = f ∙ count-one a.rows.now a.count y; lender = l }

  pub added_then : (a b c : Book X) (ys zs : List X) → Added a b ys → Added b c zs → Added a c (ys ++ zs)
  added_then a b c ys zs h k = record {
    written = rows_then a.rows.now a.count ys zs b.rows.now c.rows.now b.count h.written h.filled k.written;
    filled = count_then a.rows.now a.count ys zs b.rows.now b.count c.count h.written h.filled k.filled;
    lender = k.lender ∙ h.lender;
  }

  -- the same said of an equal book and of an equal list, as at the end of a loop's turn
  pub added_is : (a b b' : Book X) (ys ys' : List X) → b' ≡ b → ys ≡ ys' → Added a b ys → Added a b' ys'
  added_is a b b' ys ys' e f h = subst (Added a b') f (subst (λ z. Added a z ys) (sym e) h)
