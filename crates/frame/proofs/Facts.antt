-- Small facts of the parts of a board, and of an element of a list after one was written.
use Rattle.std.proofs.Common.{◌≡◌, ℕ, ◌<◌, true, false, ltb, ◌≢◌, ◌⊎◌, List, length, get_or, set, Some, None, Option, sym, refl, ap, ◌∙◌, subst, inl, inr, ⊎_elim, arith}
use Rattle.std.proofs.lemmas.List.{get_or-set_same, get_or-set_other}
use Rattle.std.proofs.lemmas.Bool.{and_from, and_parts, both_ways, cases_eq, lt-ltb, ltb-true}
use Rattle.sheet.specs.declared.layout.Side.{Side}
use Rattle.sheet.specs.declared.layout.Side.TheVariants as side
use Rattle.sheet.specs.declared.layout.Position.{Position}
use Rattle.sheet.specs.declared.layout.Position.TheVariants.{Plus, Minus}
use Rattle.sheet.specs.declared.layout.Layout.{Layout}
use Rattle.board.specs.Boards.{is_trailed, demanded, elsewhere, hinders, fails, is_normal, thrown, toward, is_held, is_cleared, released, is_clear, is_pulled, dropped, lever_of, route_of, is_set}
use Rattle.board.specs.declared.board.Coupling.{Coupling}
use Rattle.board.specs.declared.board.Coupling.TheVariants.{Coupled, Trailed}
use Rattle.board.specs.declared.board.Point.{Point}
use Rattle.board.specs.declared.board.Lever.{Lever}
use Rattle.board.specs.declared.board.Lever.TheVariants as lever
use Rattle.board.specs.declared.board.Stage.{Stage}
use Rattle.board.specs.declared.board.Stage.TheVariants.{Open, Held, Cleared, Run, Spent}
use Rattle.board.specs.declared.board.Arm.{Arm}
use Rattle.board.specs.declared.board.Arm.TheVariants as arm
use Rattle.board.specs.declared.board.Board.{Board}
use Rattle.frame.specs.Law.{StandsAs}

-- Points

pub unhindered_fits : (d : Option Position) (x : Point) → hinders d x ≡ false → elsewhere d x.position ≡ false
unhindered_fits None x h = refl
unhindered_fits (Some y) x h = grind arith

pub unfailing_coupled : (d : Option Position) (x : Point) → fails d x ≡ false → demanded d ≡ true → is_trailed x ≡ false
unfailing_coupled d x h t = grind arith

pub undemanded_fits : (d : Option Position) (x : Position) → demanded d ≡ false → elsewhere d x ≡ false
undemanded_fits None x h = refl
undemanded_fits (Some y) x h = absurd (both_ways true h refl)

coupled_by : (x : Coupling) (p : Position) → is_trailed (record { position = p; coupling = x }) ≡ false → x ≡ Coupled
coupled_by Coupled p h = refl
coupled_by Trailed p h = absurd (both_ways true h refl)

placed_by : (y x : Position) → elsewhere (Some y) x ≡ false → x ≡ y
placed_by Plus Plus h = refl
placed_by Plus Minus h = absurd (both_ways true h refl)
placed_by Minus Plus h = absurd (both_ways true h refl)
placed_by Minus Minus h = refl

pub stands_as : (d : Option Position) (x : Point) → (demanded d ≡ true → is_trailed x ≡ false) → elsewhere d x.position ≡ false → StandsAs d x
stands_as None x c e = tt
stands_as (Some y) x c e = (coupled_by x.coupling x.position (c refl), placed_by y x.position e)

-- Fields and arms

pub cleared_held : (x : Stage) → x ≡ Cleared → is_held x ≡ true
cleared_held x h = ap is_held h

pub is_cleared_lem : (x : Stage) → is_cleared x ≡ true → x ≡ Cleared
is_cleared_lem Open h = absurd (both_ways false refl h)
is_cleared_lem Held h = absurd (both_ways false refl h)
is_cleared_lem Cleared h = refl
is_cleared_lem Run h = absurd (both_ways false refl h)
is_cleared_lem Spent h = absurd (both_ways false refl h)

pub released_free : (x : Stage) → is_held (released x) ≡ false
released_free Open = refl
released_free Held = refl
released_free Cleared = refl
released_free Run = refl
released_free Spent = refl

pub dropped-fell : (x : Arm) → is_clear (dropped x) ≡ false
dropped-fell arm.Normal = refl
dropped-fell arm.Clear = refl
dropped-fell arm.Fallen = refl

pub clear_pulled : (x : Arm) → is_clear x ≡ true → is_pulled x ≡ true
clear_pulled arm.Normal h = absurd (both_ways false refl h)
clear_pulled arm.Clear h = refl
clear_pulled arm.Fallen h = refl

-- Levers

-- a lever is thrown to one side at most
pub thrown_once : (l : Lever) (a b : Side) → thrown l a ≡ true → thrown l b ≡ true → a ≡ b
thrown_once lever.Normal a b h k = absurd (both_ways false refl h)
thrown_once lever.Up side.Up side.Up h k = refl
thrown_once lever.Up side.Up side.Down h k = absurd (both_ways false refl k)
thrown_once lever.Up side.Down b h k = absurd (both_ways false refl h)
thrown_once lever.Down side.Up b h k = absurd (both_ways false refl h)
thrown_once lever.Down side.Down side.Up h k = absurd (both_ways false refl k)
thrown_once lever.Down side.Down side.Down h k = refl

pub thrown-toward : (a : Side) → thrown (toward a) a ≡ true
thrown-toward side.Up = refl
thrown-toward side.Down = refl

pub normal_not_thrown : (l : Lever) (a : Side) → is_normal l ≡ true → thrown l a ≡ false
normal_not_thrown lever.Normal a h = refl
normal_not_thrown lever.Up a h = absurd (both_ways false refl h)
normal_not_thrown lever.Down a h = absurd (both_ways false refl h)

-- a set route is one of the plan, and its lever is thrown to its side
pub set_parts : (l : Layout) (b : Board) (r : ℕ) → is_set l b r ≡ true → (r < l.counts.routes) × (thrown (lever_of l b r) (route_of l r).side ≡ true)
set_parts l b r h =
    let p = and_parts (ltb r l.counts.routes) (thrown (lever_of l b r) (route_of l r).side) h in
    (ltb-true r l.counts.routes p.0, p.1)

pub set_from : (l : Layout) (b : Board) (r : ℕ) → r < l.counts.routes → thrown (lever_of l b r) (route_of l r).side ≡ true → is_set l b r ≡ true
set_from l b r k t = and_from (ltb r l.counts.routes) (thrown (lever_of l b r) (route_of l r).side) (lt-ltb r l.counts.routes k) t

-- An element of a list after one was written

module _ {A : Type 0} (xs : List A) (i j : ℕ) (x d : A) (P : A → Type 0) (l : i < length xs) where
  pub by_set : (j ≡ i → P x) → (j ≢ i → P (get_or xs j d)) → P (get_or (set xs i x) j d)
  by_set here there =
      ⊎_elim
      (λ e. subst P (sym (ap (λ k. get_or (set xs i x) k d) e ∙ get_or-set_same xs i x d l)) (here e))
      (λ ne. subst P (sym (get_or-set_other xs i j x d ne)) (there ne))
      (cases_eq j i)

  pub from_set : P (get_or (set xs i x) j d) → ((j ≡ i) × P x) ⊎ ((j ≢ i) × P (get_or xs j d))
  from_set h =
      ⊎_elim
      (λ e. inl (e, subst P (ap (λ k. get_or (set xs i x) k d) e ∙ get_or-set_same xs i x d l) h))
      (λ ne. inr (ne, subst P (get_or-set_other xs i j x d ne) h))
      (cases_eq j i)
