-- What reading and asking a plan answer.
use Rattle.std.specs.Prelude.{ℕ, cond, Some, None, Ok, Err, Option, Result, nat_lt}
use Rattle.sheet.specs.Faults.{number_of}
use Rattle.sheet.specs.Layouts.{route_in}
use Rattle.sheet.specs.Decode.{Outcome, accepted, refused}
use Rattle.sheet.specs.declared.fault.SheetFault.{SheetFault}
use Rattle.sheet.specs.declared.layout.Route.{Route}
use Rattle.sheet.specs.declared.layout.Layout.{Layout}
use Rattle.sheet.specs.declared.plan.Plan.{Plan}

-- what a reading answers: a plan, or each case of a fault by its number and place
abbrev pub answered : Result Plan SheetFault → Outcome
answered (Ok p) = accepted p.layout
answered (Err e) = refused (number_of e.flaw) e.place

-- the route of that number
abbrev pub route_given : Layout → ℕ → Option Route
route_given l r = cond (nat_lt r l.counts.routes) (Some (route_in l.routes r)) None
