use Rattle.std.proofs.Common.{◌≡◌, ◌+◌, ◌-◌, ◌*◌, ◌≤◌, ◌++◌, length, drop, replicate}
use Rattle.sheet.specs.Fields.{fill, route_at, routes_at}
use Rattle.sheet.specs.Layouts.{no_route}
use Rattle.sheet.specs.Valid.{WithinTo}
use Rattle.sheet.proofs.reader.routes.Given as goal

abbrev pub invariant-loop-k : goal.invariant-loop-k
invariant-loop-k l =
    (fill (route_at l.counts) l.bits.bytes.now l.bits.at (l.counts.routes - l.k) l.k (l.front ++ drop l.counts.routes (replicate 32 no_route))
    ≡ routes_at l.counts l.initial.bits.bytes.now l.initial.bits.at)
    × (l.bits.at ≤ l.initial.bits.at + 107 * l.k)
    × (length l.front ≡ l.counts.routes)
    × WithinTo l.k l.counts l.front
