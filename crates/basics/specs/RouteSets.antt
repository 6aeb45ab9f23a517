-- A set of routes as a list: true at the routes that it has.
use Rattle.std.specs.Prelude.{ℕ, Bool, false, List, slice_index_or}

-- a route past the end is not in the set
abbrev pub member : List Bool → ℕ → Bool
member s r = slice_index_or s r false
