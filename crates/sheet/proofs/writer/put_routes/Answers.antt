use Rattle.std.proofs.Common.{◌≡◌, ℕ, ◌+◌, ◌-◌, ◌<◌, List, length, take, get_or-take, sym, subst, arith}
use Rattle.sheet.specs.Encode.{each, route_bits}
use Rattle.sheet.specs.Layouts.{route_in}
use Rattle.sheet.specs.Writing.{HasRoom, Wrote}
use Rattle.sheet.specs.declared.layout.Layout.{Layout}
use Rattle.sheet.specs.declared.layout.Route.{Route}
use Rattle.sheet.proofs.Puts.{going_more, each_more, room_more}
use Rattle.sheet.proofs.writer.put_routes.Goals as goal

abbrev item : Layout → ℕ → List ℕ
item l r = route_bits l.counts (route_in l.routes r) r

-- a route of the first of them
within : (l : Layout) (r : ℕ) → r < l.counts.routes → route_in (take l.counts.routes l.routes) r ≡ route_in l.routes r
within l r h = rw get_or-take

pub put_route-requires-clause-room : goal.put_route-requires-clause-room
put_route-requires-clause-room c =
    let l = c.args.layout.now in
    let r = c.loop-r.r in
    let n = l.counts.routes in
    let e = each_more (item l) n r (omega arith) in
    let P : Route → Type 0 = λ x. HasRoom c.loop-r.w (length (route_bits l.counts x r)) in
    subst P (sym (within l r (omega arith))) (room_more (item l r) (each (item l) (n - (r + 1)) (r + 1)) (rw e at c.loop-r.invariant) c.requires.room)

pub loop-r-preserved : goal.loop-r-preserved
loop-r-preserved c =
    let l = c.args.layout.now in
    let r = c.loop-r.r in
    let e = each_more (item l) l.counts.routes r (omega arith) in
    let P : Route → Type 0 = λ x. Wrote c.loop-r.w c.put_route.new.w (route_bits l.counts x r) in
    going_more {xs = item l r} (rw e at c.loop-r.invariant) (subst P (within l r (omega arith)) c.put_route.ensures)
