-- The arms that fall over a trailed point, route by route.
use Rattle.std.proofs.Common.{◌≡◌, ℕ, ◌+◌, true, false, get_or, set, refl, add-one}
use Rattle.sheet.specs.declared.layout.Layout.{Layout}
use Rattle.board.specs.Boards.{claims, fell, dropped, route_of, with_signals}
use Rattle.board.specs.declared.board.Board.{Board}
use Rattle.board.specs.declared.board.Arm.TheVariants as arm

pub fell_none : (l : Layout) (b : Board) (p : ℕ) → b ≡ with_signals b (fell l b p 0)
unfolding fell
fell_none l b p = refl

-- b stands for the board at the start, and x for the one that the loop has
module _ (l : Layout) (b x : Board) (p n : ℕ) (h : x ≡ with_signals b (fell l b p n)) where
  pub fell_skip : claims l x p n ≡ false → x ≡ with_signals b (fell l b p (n + 1))
  unfolding fell
  fell_skip t = let t' : claims l b p n ≡ false = rw h at t in rw (add-one, t') h

  pub fell_more : claims l x p n ≡ true → with_signals x (set x.signals (route_of l n).signal (dropped (get_or x.signals (route_of l n).signal arm.Normal))) ≡ with_signals b (fell l b p (n + 1))
  unfolding fell
  fell_more t = let t' : claims l b p n ≡ true = rw h at t in rw (add-one, t', h)
