-- The first entry of a list under a number.
use Rattle.std.specs.Prelude.{ℕ, List, Option, ◌==◌}
use Rattle.std.specs.List.{position}

-- the place of the first x with f x ≡ n
abbrev pub first_of : {X : Type 0} → (X → ℕ) → ℕ → List X → Option ℕ
first_of f n xs = position (λ x. f x == n) xs
