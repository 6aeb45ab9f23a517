-- The route that has a bit, route by route.
use Rattle.std.proofs.Common.{◌≡◌, ℕ, suc, ◌+◌, ◌-◌, ◌*◌, ◌<◌, ◌≤◌, arith}
use Rattle.std.proofs.lemmas.Bool.{le-ltb}
use Rattle.survey.specs.Words.{holding}

module _ (p n i r start : ℕ) (h : r < n) where
  pub holding_more : start + (11 + 2 * p + (n - (r + 1))) ≤ i
      → holding p n i (n - r) r start ≡ holding p n i (n - (r + 1)) (r + 1) (start + (11 + 2 * p + (n - (r + 1))))
  holding_more t =
      let m : n - r ≡ suc (n - (r + 1)) = omega arith in
      let b = le-ltb i (start + (11 + 2 * p + (n - (r + 1)))) t in
      rw (m, b)
