-- The rules of a whole plan: no two routes on one lever and side, and no lever and no signal without a route.
use Rattle.std.specs.Prelude.{ℕ, Bool, not, ◌&&◌, Option, ◌==◌, nat_eq, nat_lt}
use Rattle.basics.specs.Scan.{any, lowest}
use Rattle.sheet.specs.Layouts.{route_in, same_side}
use Rattle.sheet.specs.declared.fault.Flaw.{Flaw}
use Rattle.sheet.specs.declared.fault.Flaw.TheVariants.{SharedLever, IdleLever, IdleSignal}
use Rattle.sheet.specs.declared.rules.PlanRule.{PlanRule}
use Rattle.sheet.specs.declared.rules.PlanRule.TheVariants.{OneRouteASide, LeversServe, SignalsServe}
use Rattle.sheet.specs.declared.layout.Route.{Route}
use Rattle.sheet.specs.declared.layout.Layout.{Layout}

-- one lever and one side
abbrev pub alike : Route → Route → Bool
alike a b = a.lever == b.lever && same_side a.side b.side

-- route r shares lever and side with a lower route
abbrev pub shared : Layout → ℕ → Bool
shared l r = any (λ q. alike (route_in l.routes q) (route_in l.routes r)) r

-- some route has the lever, the signal
abbrev pub has_lever : Layout → ℕ → Bool
has_lever l v = any (λ r. nat_eq (route_in l.routes r).lever v) l.counts.routes

abbrev pub has_signal : Layout → ℕ → Bool
has_signal l g = any (λ r. nat_eq (route_in l.routes r).signal g) l.counts.routes

-- whether route, lever or signal k breaks a rule
abbrev pub broken : Layout → PlanRule → ℕ → Bool
broken l OneRouteASide r = shared l r
broken l LeversServe v = not (has_lever l v)
broken l SignalsServe g = not (has_signal l g)

-- how many there are of what a rule speaks of
abbrev pub extent_of : Layout → PlanRule → ℕ
extent_of l OneRouteASide = l.counts.routes
extent_of l LeversServe = l.counts.levers
extent_of l SignalsServe = l.counts.signals

-- there is a route, lever or signal k, and it breaks the rule
abbrev pub breaks : Layout → PlanRule → ℕ → Bool
breaks l k n = nat_lt n (extent_of l k) && broken l k n

abbrev pub flaw_of : PlanRule → Flaw
flaw_of OneRouteASide = SharedLever
flaw_of LeversServe = IdleLever
flaw_of SignalsServe = IdleSignal

-- the lowest that breaks a rule
abbrev pub lowest_broken : Layout → PlanRule → Option ℕ
lowest_broken l k = lowest (broken l k) (extent_of l k)
