-- Words for what stands on a board.
use Rattle.std.specs.Prelude.{ℕ, zero, suc, Bool, true, false, cond, not, ◌&&◌, ◌||◌, List, replicate, Some, None, Option, ◌==◌, nat_lt, slice_index_or, slice_set}
use Rattle.sheet.specs.Layouts.{route_in, demand_of}
use Rattle.sheet.specs.declared.layout.Side.{Side}
use Rattle.sheet.specs.declared.layout.Side.TheVariants as side
use Rattle.sheet.specs.declared.layout.Position.{Position}
use Rattle.sheet.specs.declared.layout.Position.TheVariants.{Plus, Minus}
use Rattle.sheet.specs.declared.layout.Route.{Route}
use Rattle.sheet.specs.declared.layout.Layout.{Layout}
use Rattle.board.specs.declared.board.Coupling.{Coupling}
use Rattle.board.specs.declared.board.Coupling.TheVariants.{Coupled, Trailed}
use Rattle.board.specs.declared.board.Point.{Point}
use Rattle.board.specs.declared.board.Lever.{Lever}
use Rattle.board.specs.declared.board.Lever.TheVariants as lever
use Rattle.board.specs.declared.board.Stage.{Stage}
use Rattle.board.specs.declared.board.Stage.TheVariants.{Open, Held, Cleared, Run, Spent}
use Rattle.board.specs.declared.board.Arm.{Arm}
use Rattle.board.specs.declared.board.Arm.TheVariants as arm
use Rattle.board.specs.declared.board.Board.{Board}

-- Points, and what is demanded of them

abbrev pub uncoupled : Coupling → Bool
uncoupled Coupled = false
uncoupled Trailed = true

abbrev pub is_trailed : Point → Bool
is_trailed x = uncoupled x.coupling

abbrev pub demanded : Option Position → Bool
demanded None = false
demanded (Some x) = true

-- the position is not the one that is demanded
abbrev pub elsewhere : Option Position → Position → Bool
elsewhere None x = false
elsewhere (Some Plus) Plus = false
elsewhere (Some Plus) Minus = true
elsewhere (Some Minus) Plus = true
elsewhere (Some Minus) Minus = false

-- a point that is demanded, and is trailed or in the other position
abbrev pub hinders : Option Position → Point → Bool
hinders d x = demanded d && (is_trailed x || elsewhere d x.position)

-- a point that is demanded and trailed
abbrev pub fails : Option Position → Point → Bool
fails d x = demanded d && is_trailed x

abbrev pub flipped : Position → Position
flipped Plus = Minus
flipped Minus = Plus

abbrev pub other_way : Point → Point
other_way x = record { position = flipped x.position; coupling = x.coupling }

abbrev pub trailed_here : Point → Point
trailed_here x = record { position = x.position; coupling = Trailed }

abbrev pub coupled_again : Point → Point
coupled_again x = record { position = x.position; coupling = Coupled }

-- Route levers

abbrev pub is_normal : Lever → Bool
is_normal lever.Normal = true
is_normal lever.Up = false
is_normal lever.Down = false

abbrev pub thrown : Lever → Side → Bool
thrown lever.Normal x = false
thrown lever.Up side.Up = true
thrown lever.Up side.Down = false
thrown lever.Down side.Up = false
thrown lever.Down side.Down = true

abbrev pub toward : Side → Lever
toward side.Up = lever.Up
toward side.Down = lever.Down

-- Fields

abbrev pub is_held : Stage → Bool
is_held Open = false
is_held Held = true
is_held Cleared = true
is_held Run = true
is_held Spent = false

abbrev pub is_cleared : Stage → Bool
is_cleared Open = false
is_cleared Held = false
is_cleared Cleared = true
is_cleared Run = false
is_cleared Spent = false

abbrev pub is_run : Stage → Bool
is_run Open = false
is_run Held = false
is_run Cleared = false
is_run Run = true
is_run Spent = false

abbrev pub is_spent : Stage → Bool
is_spent Open = false
is_spent Held = false
is_spent Cleared = false
is_spent Run = false
is_spent Spent = true

-- the stage of a field that is released
abbrev pub released : Stage → Stage
released Open = Open
released Held = Open
released Cleared = Open
released Run = Spent
released Spent = Spent

-- Signal levers

abbrev pub is_clear : Arm → Bool
is_clear arm.Normal = false
is_clear arm.Clear = true
is_clear arm.Fallen = false

abbrev pub is_pulled : Arm → Bool
is_pulled arm.Normal = false
is_pulled arm.Clear = true
is_pulled arm.Fallen = true

-- an arm at clear falls
abbrev pub dropped : Arm → Arm
dropped arm.Normal = arm.Normal
dropped arm.Clear = arm.Fallen
dropped arm.Fallen = arm.Fallen

-- The board

-- points plus and coupled, levers normal, fields open
abbrev pub plus_point : Point
plus_point = record { position = Plus; coupling = Coupled }

abbrev pub fresh : Board
fresh = record { points = replicate 32 plus_point; levers = replicate 16 lever.Normal; fields = replicate 32 Open; signals = replicate 32 arm.Normal }

abbrev pub point_at : Board → ℕ → Point
point_at b p = slice_index_or b.points p plus_point

abbrev pub stage_at : Board → ℕ → Stage
stage_at b r = slice_index_or b.fields r Open

abbrev pub arm_at : Board → ℕ → Arm
arm_at b g = slice_index_or b.signals g arm.Normal

abbrev pub lever_at : Board → ℕ → Lever
lever_at b v = slice_index_or b.levers v lever.Normal

abbrev pub with_point : Board → ℕ → Point → Board
with_point b p x = record { points = slice_set b.points p x; levers = b.levers; fields = b.fields; signals = b.signals }

abbrev pub with_lever : Board → ℕ → Lever → Board
with_lever b v x = record { points = b.points; levers = slice_set b.levers v x; fields = b.fields; signals = b.signals }

abbrev pub with_stage : Board → ℕ → Stage → Board
with_stage b r x = record { points = b.points; levers = b.levers; fields = slice_set b.fields r x; signals = b.signals }

abbrev pub with_arm : Board → ℕ → Arm → Board
with_arm b g x = record { points = b.points; levers = b.levers; fields = b.fields; signals = slice_set b.signals g x }

abbrev pub with_signals : Board → List Arm → Board
with_signals b xs = record { points = b.points; levers = b.levers; fields = b.fields; signals = xs }

-- Under a plan

abbrev pub lacks : ℕ → ℕ → Bool
lacks n k = not (nat_lt k n)

-- the plan has no such point, signal, route
abbrev pub lacks_point : Layout → ℕ → Bool
lacks_point l p = lacks l.counts.points p

abbrev pub lacks_signal : Layout → ℕ → Bool
lacks_signal l g = lacks l.counts.signals g

abbrev pub lacks_route : Layout → ℕ → Bool
lacks_route l r = lacks l.counts.routes r

abbrev pub route_of : Layout → ℕ → Route
route_of l r = route_in l.routes r

-- a route's lever, and its side
abbrev pub lever_of : Layout → Board → ℕ → Lever
lever_of l b r = lever_at b (route_of l r).lever

-- a route is set while its lever is thrown to its side
abbrev pub is_set : Layout → Board → ℕ → Bool
is_set l b r = nat_lt r l.counts.routes && thrown (lever_of l b r) (route_of l r).side

-- a route is signalled while it is set and its signal's arm is at clear
abbrev pub is_signalled : Layout → Board → ℕ → Bool
is_signalled l b r = is_set l b r && is_clear (arm_at b (route_of l r).signal)

-- route r is set and demands point p
abbrev pub claims : Layout → Board → ℕ → ℕ → Bool
claims l b p r = is_set l b r && demanded (demand_of (route_of l r) p)

-- route r is set and has signal g
abbrev pub serves : Layout → Board → ℕ → ℕ → Bool
serves l b g r = is_set l b r && (route_of l r).signal == g

-- the arms, once those of the first n routes have fallen that are set and demand point p
unfoldable pub fell : Layout → Board → ℕ → ℕ → List Arm
fell l b p zero = b.signals
fell l b p (suc n) =
    let xs = fell l b p n in
    let g = (route_of l n).signal in
    cond (claims l b p n) (slice_set xs g (dropped (slice_index_or xs g arm.Normal))) xs
