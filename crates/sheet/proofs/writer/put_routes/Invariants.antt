use Rattle.std.proofs.Common.{◌-◌}
use Rattle.sheet.specs.Encode.{each, route_bits, routes_bits}
use Rattle.sheet.specs.Layouts.{route_in}
use Rattle.sheet.proofs.Puts.{Going}
use Rattle.sheet.proofs.writer.put_routes.Given as goal

abbrev pub invariant-loop-r : goal.invariant-loop-r
invariant-loop-r l =
    Going l.initial.w l.w
    (each (λ r. route_bits l.layout.counts (route_in l.layout.routes r) r) (l.layout.counts.routes - l.r) l.r)
    (routes_bits l.layout)
