-- What a block means.
use Rattle.std.specs.Prelude.{◌≡◌, ℕ, ◌≤◌, Bool, true, false, ◌&&◌, List, length, replicate, slice_set}
use Rattle.basics.specs.RouteSets.{member}
use Rattle.basics.specs.Scan.{any}

-- the number of lines, the routes whose consent is out and not at home, and whether the line is whole
pub record Meaning : Type 0 where
  pub lines : ℕ
  pub out : List Bool
  pub whole : Bool

-- one to thirty-two lines, and a consent for each
pub record WellFormed (m : Meaning) : Type 0 where
  pub some : 1 ≤ m.lines
  pub few : m.lines ≤ 32
  pub each : length m.out ≡ m.lines

-- the consent of route r is out; a route beyond the lines is never out
abbrev pub is_out : Meaning → ℕ → Bool
is_out m r = member m.out r

-- route r is of a set of routes, and its consent is out
abbrev pub out_of : Meaning → List Bool → ℕ → Bool
out_of m routes r = member routes r && is_out m r

-- the consent of one of a set of routes is out
unfoldable pub any_out : Meaning → List Bool → Bool
any_out m routes = any (out_of m routes) m.lines

-- the same, but for route r, whose consent is out or not as b says
abbrev pub with_out : Meaning → ℕ → Bool → Meaning
with_out m r b = record { lines = m.lines; out = slice_set m.out r b; whole = m.whole }

-- the same, but for the line, which is whole or not as b says
abbrev pub with_whole : Meaning → Bool → Meaning
with_whole m b = record { lines = m.lines; out = m.out; whole = b }

-- n lines, nothing out, and the line whole
abbrev pub fresh_block : ℕ → Meaning
fresh_block n = record { lines = n; out = replicate n false; whole = true }
