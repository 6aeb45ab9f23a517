-- The arms that are still at clear over a trailed point.
use Rattle.std.proofs.Common.{◌≡◌, ℕ, zero, suc, ◌<◌, Bool, true, false, cond, List, length, get_or, set, sym, refl, ◌∙◌, subst, ⊎_elim, arith, length-set}
use Rattle.std.proofs.lemmas.Bool.{both_ways, cases_eq}
use Rattle.sheet.specs.declared.layout.Layout.{Layout}
use Rattle.board.specs.Boards.{claims, fell, dropped, is_clear, arm_at, route_of}
use Rattle.board.specs.declared.board.Arm.{Arm}
use Rattle.board.specs.declared.board.Arm.TheVariants as arm
use Rattle.board.specs.declared.board.Board.{Board}
use Rattle.frame.proofs.Facts.{dropped-fell, from_set}

set_long : (t : Bool) (xs : List Arm) (g : ℕ) (x : Arm) (n : ℕ) → length xs ≡ n → length (cond t (set xs g x) xs) ≡ n
set_long true xs g x n h = length-set xs g x ∙ h
set_long false xs g x n h = h

pub fell_long : (l : Layout) (b : Board) (p n : ℕ) → length (fell l b p n) ≡ length b.signals
unfolding fell
fell_long l b p zero = refl
fell_long l b p (suc n) = set_long (claims l b p n) (fell l b p n) (route_of l n).signal (dropped (get_or (fell l b p n) (route_of l n).signal arm.Normal)) _ (fell_long l b p n)

-- an arm that is still at clear was so before, and none of the first n routes behind it claims the point
abbrev StillClear : Layout → Board → ℕ → ℕ → ℕ → Type 0
StillClear l b p n g = (is_clear (arm_at b g) ≡ true) × ((r : ℕ) → r < n → claims l b p r ≡ true → (route_of l r).signal ≡ g → ⊥)

fell_step : (l : Layout) (b : Board) (p n g : ℕ) → (route_of l n).signal < length (fell l b p n) → (is_clear (get_or (fell l b p n) g arm.Normal) ≡ true → StillClear l b p n g) → is_clear (get_or (fell l b p (suc n)) g arm.Normal) ≡ true → StillClear l b p (suc n) g
unfolding fell
fell_step l b p n g k ih = go (claims l b p n) refl
  where
    x : Arm
    x = dropped (get_or (fell l b p n) (route_of l n).signal arm.Normal)

    more : StillClear l b p n g → (claims l b p n ≡ true → (route_of l n).signal ≡ g → ⊥) → StillClear l b p (suc n) g
    more h bar = (h.0, λ r m c e. ⊎_elim (λ f. bar (subst (λ z. claims l b p z ≡ true) f c) (subst (λ z. (route_of l z).signal ≡ g) f e)) (λ ne. h.1 r (omega arith) c e) (cases_eq r n))

    go : (t : Bool) → claims l b p n ≡ t → is_clear (get_or (cond t (set (fell l b p n) (route_of l n).signal x) (fell l b p n)) g arm.Normal) ≡ true → StillClear l b p (suc n) g
    go true e c =
        ⊎_elim
        (λ w. absurd (both_ways (is_clear x) (dropped-fell (get_or (fell l b p n) (route_of l n).signal arm.Normal)) w.1))
        (λ w. more (ih w.1) (λ _ f. w.0 (sym f)))
        (from_set (fell l b p n) (route_of l n).signal g x arm.Normal (λ z. is_clear z ≡ true) k c)
    go false e c = more (ih c) (λ f _. both_ways (claims l b p n) e f)

pub fell_clear : (l : Layout) (b : Board) (p n g : ℕ) → ((r : ℕ) → r < n → (route_of l r).signal < length b.signals) → is_clear (get_or (fell l b p n) g arm.Normal) ≡ true → StillClear l b p n g
unfolding fell
fell_clear l b p zero g k c = (c, λ r m. absurd (omega arith))
fell_clear l b p (suc n) g k c = fell_step l b p n g (omega (arith, k n (omega arith), fell_long l b p n)) (fell_clear l b p n g (λ r m. k r (omega arith))) c
