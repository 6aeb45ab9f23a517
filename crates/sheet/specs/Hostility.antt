-- Which routes are hostile.
use Rattle.std.specs.Prelude.{ℕ, Bool, true, false, not, ◌&&◌, ◌||◌, List, map, Some, None, Option, ◌==◌, nat_lt, slice_index_or}
use Rattle.std.specs.List.{range_with_len}
use Rattle.basics.specs.Scan.{any}
use Rattle.sheet.specs.Layouts.{route_in, demand_of}
use Rattle.sheet.specs.declared.layout.Position.{Position}
use Rattle.sheet.specs.declared.layout.Position.TheVariants.{Plus, Minus}
use Rattle.sheet.specs.declared.layout.Route.{Route}
use Rattle.sheet.specs.declared.layout.Layout.{Layout}

-- one plus and the other minus
abbrev pub opposed : Option Position → Option Position → Bool
opposed None d = false
opposed (Some Plus) None = false
opposed (Some Plus) (Some Plus) = false
opposed (Some Plus) (Some Minus) = true
opposed (Some Minus) None = false
opposed (Some Minus) (Some Plus) = true
opposed (Some Minus) (Some Minus) = false

-- some point below n is demanded plus by one and minus by the other
abbrev pub clashing : Route → Route → ℕ → Bool
clashing a b n = any (λ p. opposed (demand_of a p) (demand_of b p)) n

-- the sheet names the pair at route r
abbrev pub named_at_route : Layout → ℕ → ℕ → Bool
named_at_route l r q = slice_index_or (route_in l.routes r).named q false

-- what makes two routes hostile, if they are two
abbrev pub opponents : Layout → ℕ → ℕ → Bool
opponents l r q =
    ((route_in l.routes r).lever == (route_in l.routes q).lever) ||
    ((route_in l.routes r).signal == (route_in l.routes q).signal ||
    ((named_at_route l r q || named_at_route l q r) ||
    clashing (route_in l.routes r) (route_in l.routes q) l.counts.points))

-- two different routes of the plan that share a lever or a signal, are named as a pair, or demand a point in both positions
unfoldable pub are_hostile : Layout → ℕ → ℕ → Bool
are_hostile l r q =
    (nat_lt r l.counts.routes && nat_lt q l.counts.routes) && (not (r == q) && opponents l r q)

-- the set of routes hostile to r
unfoldable pub hostiles_of : Layout → ℕ → List Bool
hostiles_of l r = map (are_hostile l r) (range_with_len 0 32)
