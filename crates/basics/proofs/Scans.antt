-- Scans, number by number.
use Rattle.std.proofs.Common.{◌≡◌, ℕ, zero, suc, ◌+◌, ◌<◌, ◌≤◌, Bool, true, false, cond, ◌||◌, ◌⊎◌, List, [], ◌∷◌, ◌++◌, map, length, take, get_or, not, ltb, eqb, Some, None, Option, sym, refl, ap, ◌∙◌, inl, inr, ⊎_elim, add-one, arith}
use Rattle.std.proofs.lemmas.Bool.{or_left, or_right, or_parts, cases_eq, cases_lt, lt-ltb, le-ltb, eq-eqb, ne_eqb}
use Rattle.std.proofs.lemmas.List.{map-id, length-append, length-take, take_more}
use Rattle.std.proofs.lemmas.List.FromFn.{map-range_with_len_more}
use Rattle.std.proofs.lemmas.List.Folds.{list_any-append, list_any_more, find-append, position_or_len_push}
use Rattle.std.proofs.lemmas.List.Sums.{prefix_len-le-length}
use Rattle.std.proofs.lemmas.Iterator.{YieldsList-from_range}
use Rattle.std.proofs.lemmas.Iterator.Search.{any_from_yields_List, find_from_yields_List}
use Rattle.std.proofs.lemmas.Iterator.Adapters.{option_map_id}
use Rattle.std.proofs.iter.Yields.{nat_range_steps}
use Rattle.std.specs.Bool.{⊤}
use Rattle.std.specs.Fn.{Called, CalledAt}
use Rattle.std.specs.Iterator.{YieldsThen}
use Rattle.std.specs.List.{list_any, find, position, position_or_len, range_with_len, FoldsTo}
use Rattle.std.specs.Option.{MatchOption, option_or, option_map}
use Rattle.std.specs.declared.ops.Range.{Range}
use denote.Param.Members.{Mut}
use denote.Ref.{Bor}
use Rattle.basics.specs.Scan.{any, lowest, or_else}

module _ (f : ℕ → Bool) where
  pub any_hit : (n k : ℕ) → k < n → f k ≡ true → any f n ≡ true
  any_hit zero k l t = absurd (omega arith)
  any_hit (suc n) k l t =
      ⊎_elim (λ e. or_right (any f n) (f n) (ap f (sym e) ∙ t)) (λ ne. or_left (any f n) (f n) (any_hit n k (omega arith) t)) (cases_eq k n)

  pub any_none : (n k : ℕ) → any f n ≡ false → k < n → f k ≡ false
  any_none zero k h l = absurd (omega arith)
  any_none (suc n) k h l =
      let p = or_parts (any f n) (f n) h in
      ⊎_elim (λ e. ap f e ∙ p.1) (λ ne. any_none n k p.0 (omega arith)) (cases_eq k n)

  pub lowest_hit : (n k : ℕ) → k < n → lowest f k ≡ None → f k ≡ true → lowest f n ≡ Some k
  lowest_hit zero k l h t = absurd (omega arith)
  lowest_hit (suc n) k l h t =
      ⊎_elim
      (λ q. let a : lowest f n ≡ None = ap (lowest f) (sym q) ∙ h in let b : f n ≡ true = ap f (sym q) ∙ t in rw (a, b, q))
      (λ ne. let a : lowest f n ≡ Some k = lowest_hit n k (omega arith) h t in rw a)
      (cases_eq k n)

or_else_none : (x : Option ℕ) (b : Bool) (n : ℕ) → or_else x (cond b (Some n) None) ≡ None → (x ≡ None) × (b ≡ false)
or_else_none (Some j) b n h = let z : ◌≡◌ {A = ℕ} 0 1 = cc in absurd (omega arith)
or_else_none None true n h = let z : ◌≡◌ {A = ℕ} 0 1 = cc in absurd (omega arith)
or_else_none None false n h = (refl, refl)

pub lowest_none : (f : ℕ → Bool) (n k : ℕ) → lowest f n ≡ None → k < n → f k ≡ false
lowest_none f zero k h l = absurd (omega arith)
lowest_none f (suc n) k h l =
    let p = or_else_none (lowest f n) (f n) n h in
    ⊎_elim (λ e. ap f e ∙ p.1) (λ ne. lowest_none f n k p.0 (omega arith)) (cases_eq k n)

or_else_some : (x : Option ℕ) (b : Bool) (n k : ℕ) → or_else x (cond b (Some n) None) ≡ Some k → (x ≡ Some k) ⊎ ((b ≡ true) × (n ≡ k))
or_else_some (Some j) b n k h = inl h
or_else_some None true n k h = inr (refl, (cc))
or_else_some None false n k h = let z : ◌≡◌ {A = ℕ} 0 1 = cc in absurd (omega arith)

pub lowest_some : (f : ℕ → Bool) (n k : ℕ) → lowest f n ≡ Some k → (k < n) × (f k ≡ true)
lowest_some f zero k h = let z : ◌≡◌ {A = ℕ} 0 1 = cc in absurd (omega arith)
lowest_some f (suc n) k h =
    ⊎_elim
    (λ a. let p = lowest_some f n k a in (omega arith, p.1))
    (λ b. let e : k ≡ n = sym b.1 in (omega arith, ap f e ∙ b.0))
    (or_else_some (lowest f n) (f n) n k h)

-- ---- chains over a range

ranged : (n : ℕ) → range_with_len 0 (suc n) ≡ range_with_len 0 n ++ n ∷ []
ranged n =
    sym (map-id (range_with_len 0 (suc n)))
    ∙ ap (λ m. map (λ x. x) (range_with_len 0 m)) (sym (add-one n))
    ∙ map-range_with_len_more (λ x. x) 0 n n (omega arith)
    ∙ ap (λ l. l ++ n ∷ []) (map-id (range_with_len 0 n))

or_false : (b : Bool) → (b || false) ≡ b
or_false true = refl
or_false false = refl

first_or : (x y : Option ℕ) → option_or x y ≡ or_else x y
first_or None y = refl
first_or (Some k) y = refl

module _ (f : ℕ → Bool) where
  pub any_listed : (n : ℕ) → list_any f (range_with_len 0 n) ≡ any f n
  any_listed zero = refl
  any_listed (suc n) =
      ap (list_any f) (ranged n)
      ∙ list_any-append f (range_with_len 0 n) (n ∷ [])
      ∙ ap (λ b. b || (f n || false)) (any_listed n)
      ∙ ap (λ b. any f n || b) (or_false (f n))

  pub lowest_listed : (n : ℕ) → find f (range_with_len 0 n) ≡ lowest f n
  lowest_listed zero = refl
  lowest_listed (suc n) =
      ap (find f) (ranged n)
      ∙ find-append f (range_with_len 0 n) (n ∷ [])
      ∙ ap (λ o. option_or o (cond (f n) (Some n) None)) (lowest_listed n)
      ∙ first_or (lowest f n) (cond (f n) (Some n) None)

-- What `(0..n).any(test)` and `(0..n).find(test)` answer, where f is what the test computes. An answer is one line, as
--   returns g c f h = any_ranged f c.args.n _ _ c.any.result c.any.ensures.ran (cc) (λ x b q k. search (rules, tests, h))
-- with `rules` of `Rattle.std.proofs.Common` and `tests` of `borrow.Author.Tests`, at a private function
--   fn any_below<F: Fn(usize) -> bool>(n: usize, test: F) -> bool
--       requires { F.IsAlwaysCallable test }
--       ensures { (f : ℕ → Bool) → ((k : ℕ) (b : Bool) → F.post test k b → b ≡ f k) → result ≡ any f n }
-- whose callers need no answer.
module _ {F : Type 0} (f : ℕ → Bool) (n : ℕ) {s : Range ℕ} where
  pub any_ranged : {g : Mut F (ℕ × Unit {0}) Bool} (u : Range ℕ) (j : F) (r : Bool)
      → (xs : List ℕ) × (o : Option ℕ) × (p : F) × YieldsThen nat_range_steps s xs o u × FoldsTo (λ p x q. Called g p (x, tt) false q) j xs p × MatchOption o (r ≡ false) (λ x. (r ≡ true) × ((h : F) × Called g p (x, tt) true h))
      → s ≡ record { start = 0; end = n } → ((x : ℕ) (b : Bool) (q : F) → Called g j (x, tt) b q → (q ≡ j) × (b ≡ f x)) → r ≡ any f n
  any_ranged u j r ran e k = any_from_yields_List f u j r ran (YieldsList-from_range 0 n n e (omega arith)) k ∙ any_listed f n

  pub lowest_ranged : {g : Mut F (Bor ℕ × Unit {0}) Bool} (u : Range ℕ) (j : F) (r : Option ℕ)
      → (xs : List ℕ) × (p : F) × YieldsThen nat_range_steps s xs r u × FoldsTo (λ p x q. CalledAt g p x false q) j xs p × MatchOption r ⊤ (λ x. (h : F) × CalledAt g p x true h)
      → s ≡ record { start = 0; end = n } → ((x : ℕ) (b : Bool) (q : F) → CalledAt g j x b q → (q ≡ j) × (b ≡ f x)) → r ≡ lowest f n
  lowest_ranged u j r ran e k = sym (option_map_id r) ∙ find_from_yields_List f u j r ran (YieldsList-from_range 0 n n e (omega arith)) k ∙ lowest_listed f n

-- ---- rows of a slice

abbrev seat : ℕ → ℕ → Option ℕ
seat q l = cond (ltb q l) (Some q) None

seat_more : (q l : ℕ) (b : Bool) → q ≤ l → seat (cond (eqb q l) (l + cond b 0 1) q) (l + 1) ≡ or_else (seat q l) (cond b (Some l) None)
seat_more q l b h =
    ⊎_elim
    (λ m. let e = ne_eqb q l (omega arith) in let t = lt-ltb q l m in let w = lt-ltb q (l + 1) (omega arith) in rw (e, t, w))
    (λ m. let e = eq-eqb q l (omega arith) in let t = le-ltb q l m in rw (e, t) (last b))
    (cases_lt q l)
  where
    last : (b : Bool) → seat (l + cond b 0 1) (l + 1) ≡ cond b (Some l) None
    last true = let w = lt-ltb l (l + 1) (omega arith) in let z : l + 0 ≡ l = omega arith in rw (z, w)
    last false = let w = le-ltb (l + 1) (l + 1) (omega arith) in rw w

module _ {X : Type 0} (p : X → Bool) where
  position_last : (xs : List X) (y : X) → position p (xs ++ y ∷ []) ≡ or_else (position p xs) (cond (p y) (Some (length xs)) None)
  position_last xs y =
      let push = position_or_len_push p xs y in
      let long : length (xs ++ y ∷ []) ≡ length xs + 1 = length-append xs (y ∷ []) in
      rw (push, long) (seat_more (position_or_len p xs) (length xs) (p y) (prefix_len-le-length (λ x. not (p x)) xs))

  -- The first n rows, as the numbers below n; d is what a number past the end reads. After `rows[..n].iter().any(..)` an
  -- answer is, with p the test of a row, xs the rows and n how many:
  --   returns c = let t : c.any.result ≡ list_any p (take n xs) = search rules in t ∙ any_rows p d xs n c.requires
  -- and after `position` the same with `lowest_rows`, after `find` with `found_rows`.
  pub any_rows : (d : X) (xs : List X) (n : ℕ) → n ≤ length xs → list_any p (take n xs) ≡ any (λ r. p (get_or xs r d)) n
  any_rows d xs zero h = refl
  any_rows d xs (suc n) h =
      ap (λ m. list_any p (take m xs)) (sym (add-one n))
      ∙ list_any_more p xs n d (omega arith)
      ∙ ap (λ b. b || p (get_or xs n d)) (any_rows d xs n (omega arith))

  pub lowest_rows : (d : X) (xs : List X) (n : ℕ) → n ≤ length xs → position p (take n xs) ≡ lowest (λ r. p (get_or xs r d)) n
  lowest_rows d xs zero h = refl
  lowest_rows d xs (suc n) h =
      let long : length (take n xs) ≡ n = omega (arith, length-take n xs) in
      ap (position p) (ap (λ m. take m xs) (sym (add-one n)) ∙ take_more xs n d (omega arith))
      ∙ position_last (take n xs) (get_or xs n d)
      ∙ ap (λ m. or_else (position p (take n xs)) (cond (p (get_or xs n d)) (Some m) None)) long
      ∙ ap (λ o. or_else o (cond (p (get_or xs n d)) (Some n) None)) (lowest_rows d xs n (omega arith))

  pub found_rows : (d : X) (xs : List X) (n : ℕ) → n ≤ length xs → find p (take n xs) ≡ option_map (λ r. get_or xs r d) (lowest (λ r. p (get_or xs r d)) n)
  found_rows d xs zero h = refl
  found_rows d xs (suc n) h =
      ap (find p) (ap (λ m. take m xs) (sym (add-one n)) ∙ take_more xs n d (omega arith))
      ∙ find-append p (take n xs) (get_or xs n d ∷ [])
      ∙ ap (λ o. option_or o (cond (p (get_or xs n d)) (Some (get_or xs n d)) None)) (found_rows d xs n (omega arith))
      ∙ read (lowest (λ r. p (get_or xs r d)) n) (p (get_or xs n d))
    where
      read : (o : Option ℕ) (b : Bool) → option_or (option_map (λ r. get_or xs r d) o) (cond b (Some (get_or xs n d)) None) ≡ option_map (λ r. get_or xs r d) (or_else o (cond b (Some n) None))
      read (Some k) b = refl
      read None true = refl
      read None false = refl
