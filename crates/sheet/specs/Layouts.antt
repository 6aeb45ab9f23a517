-- Words for the parts of a layout.
use Rattle.std.specs.Prelude.{ℕ, Bool, true, false, List, [], replicate, None, Option, slice_index_or}
use Rattle.sheet.specs.declared.layout.Side.{Side}
use Rattle.sheet.specs.declared.layout.Side.TheVariants.{Up, Down}
use Rattle.sheet.specs.declared.layout.Release.TheVariants.{Station}
use Rattle.sheet.specs.declared.layout.Position.{Position}
use Rattle.sheet.specs.declared.layout.Route.{Route}
use Rattle.sheet.specs.declared.layout.Layout.{Layout}

-- route r of a row of routes
abbrev pub route_in : List Route → ℕ → Route
route_in rs r = slice_index_or rs r (record { lever = 0; side = Up; signal = 0; release = Station; demands = []; named = [] })

-- the position that a route demands of point p, if any
abbrev pub demand_of : Route → ℕ → Option Position
demand_of x p = slice_index_or x.demands p None

abbrev pub same_side : Side → Side → Bool
same_side Up Up = true
same_side Up Down = false
same_side Down Up = false
same_side Down Down = true

-- a route that asks nothing
abbrev pub no_route : Route
no_route = record { lever = 0; side = Up; signal = 0; release = Station; demands = replicate 32 None; named = replicate 32 false }

-- a layout with nothing in it
abbrev pub blank_layout : Layout
blank_layout = record { counts = record { points = 0; signals = 0; levers = 0; routes = 0 }; routes = replicate 32 no_route }
