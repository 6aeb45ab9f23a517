-- What holds of every layout that a plan has.
use Rattle.std.specs.Prelude.{◌≡◌, ℕ, ◌<◌, ◌≤◌, true, ◌⊎◌, List}
use Rattle.sheet.specs.Bits.{Bytes}
use Rattle.sheet.specs.Layouts.{route_in}
use Rattle.sheet.specs.Rules.{has_lever, has_signal}
use Rattle.sheet.specs.Decode.{accepted, decode}
use Rattle.sheet.specs.declared.layout.Route.{Route}
use Rattle.sheet.specs.declared.layout.Counts.{Counts}
use Rattle.sheet.specs.declared.layout.Layout.{Layout}

-- no count is too large
abbrev pub Few : Counts → Type 0
Few c = (c.points ≤ 32) × (c.signals ≤ 32) × (c.levers ≤ 16) × (c.routes ≤ 32)

-- the first n routes have levers and signals that there are
abbrev pub WithinTo : ℕ → Counts → List Route → Type 0
WithinTo n c rs = (r : ℕ) → r < n → ((route_in rs r).lever < c.levers) × ((route_in rs r).signal < c.signals)

abbrev pub Within : Layout → Type 0
Within l = WithinTo l.counts.routes l.counts l.routes

-- no two routes have one lever and one side
abbrev pub Apart : Layout → Type 0
Apart l = (r q : ℕ) → (r < l.counts.routes) × (q < l.counts.routes)
    × ((route_in l.routes r).lever ≡ (route_in l.routes q).lever) × ((route_in l.routes r).side ≡ (route_in l.routes q).side) → r ≡ q

-- every lever, every signal has a route
abbrev pub LeversServed : Layout → Type 0
LeversServed l = (v : ℕ) → v < l.counts.levers → has_lever l v ≡ true

abbrev pub SignalsServed : Layout → Type 0
SignalsServed l = (g : ℕ) → g < l.counts.signals → has_signal l g ≡ true

-- no points where there are no routes
abbrev pub Bare : Layout → Type 0
Bare l = l.counts.routes ≡ 0 → l.counts.points ≡ 0

-- no routes, or what a sheet says that has passed every rule
abbrev pub Sound : Layout → Type 0
Sound l = ∥ (l.counts.routes ≡ 0) ⊎ ((s : List ℕ) × Bytes s × (decode s ≡ accepted l)) ∥₁

-- all of it
pub record Valid (l : Layout) : Type 0 where
  pub few : Few l.counts
  pub bare : Bare l
  pub within : Within l
  pub apart : Apart l
  pub levers : LeversServed l
  pub signals : SignalsServed l
  pub sound : Sound l
