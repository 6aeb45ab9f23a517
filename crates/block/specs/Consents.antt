-- What a block with a token at each place means.
use Rattle.std.specs.Prelude.{ℕ, Bool, List, map, take}
use Rattle.block.specs.Meaning.{Meaning}

-- n lines, each with its consent, which is out where its token says so; whole or cut as w says
abbrev pub consents_meaning : {X : Type 0} → (X → Bool) → ℕ → List X → Bool → Meaning
consents_meaning out n xs w = record { lines = n; out = map out (take n xs); whole = w }
