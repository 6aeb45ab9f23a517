-- What each call of the board answers under a plan, its tests in their order, and how the board stands after an accepted one.
use Rattle.std.specs.Prelude.{ℕ, Bool, cond, not, Some, None, Err, Option}
use Rattle.basics.specs.Scan.{any, lowest}
use Rattle.sheet.specs.Layouts.{demand_of}
use Rattle.sheet.specs.declared.layout.Release.{Release}
use Rattle.sheet.specs.declared.layout.Release.TheVariants.{Station, Train}
use Rattle.sheet.specs.declared.layout.Route.{Route}
use Rattle.sheet.specs.declared.layout.Layout.{Layout}
use Rattle.block.specs.declared.fault.BlockFault.TheVariants.{LineCut}
use Rattle.board.specs.declared.answer.FrameFault.TheVariants.{NoSuchNumber, PointTrailed, PointLocked, PointCoupled, LeverThrown, ConsentHome, PointElsewhere, RouteNotSet, FieldHeld, ConsentSpent, SignalPulled, NoSetRoute, FieldOpen, SignalNormal, NoTrainAwaited, TrainNotRun}
use Rattle.board.specs.declared.board.Lever.TheVariants as lever
use Rattle.board.specs.declared.board.Stage.{Stage}
use Rattle.board.specs.declared.board.Stage.TheVariants.{Held, Cleared, Run}
use Rattle.board.specs.declared.board.Arm.TheVariants as arm
use Rattle.board.specs.declared.board.Board.{Board}
use Rattle.board.specs.Answers.{Answer, accepted, refuse, block_refusal}
use Rattle.board.specs.Boards.{is_trailed, hinders, fails, other_way, trailed_here, coupled_again, is_normal, toward, is_held, is_cleared, is_run, is_spent, released, is_pulled, dropped, point_at, stage_at, arm_at, lever_of, with_point, with_lever, with_stage, with_arm, with_signals, lacks_point, lacks_signal, lacks_route, route_of, is_set, claims, serves, fell}

-- Throw a point

-- a set route demands the point
abbrev pub is_locked : Layout → Board → ℕ → Bool
is_locked l b p = any (claims l b p) l.counts.routes

abbrev pub throw_answer : Layout → Board → ℕ → Answer
throw_answer l b p =
    cond (lacks_point l p) (refuse NoSuchNumber p)
    (cond (is_trailed (point_at b p)) (refuse PointTrailed p)
    (cond (is_locked l b p) (refuse PointLocked p)
    accepted))

abbrev pub throw_changed : Layout → Board → ℕ → Board
throw_changed l b p = with_point b p (other_way (point_at b p))

-- Trail a point

abbrev pub trail_answer : Layout → Board → ℕ → Answer
trail_answer l b p =
    cond (lacks_point l p) (refuse NoSuchNumber p)
    (cond (is_trailed (point_at b p)) (refuse PointTrailed p)
    accepted)

-- the point is trailed, and each arm at clear whose set route demands it falls
abbrev pub trail_changed : Layout → Board → ℕ → Board
trail_changed l b p = with_signals (with_point b p (trailed_here (point_at b p))) (fell l b p l.counts.routes)

-- Recouple a point

abbrev pub recouple_answer : Layout → Board → ℕ → Answer
recouple_answer l b p =
    cond (lacks_point l p) (refuse NoSuchNumber p)
    (cond (not (is_trailed (point_at b p))) (refuse PointCoupled p)
    accepted)

abbrev pub recouple_changed : Layout → Board → ℕ → Board
recouple_changed l b p = with_point b p (coupled_again (point_at b p))

-- Set a route

-- point p keeps the route from being set
abbrev pub hinders_at : Board → Route → ℕ → Bool
hinders_at b x p = hinders (demand_of x p) (point_at b p)

-- the lowest such point
abbrev pub obstacle_of : Layout → Board → Route → Option ℕ
obstacle_of l b x = lowest (hinders_at b x) l.counts.points

abbrev pub unhindered : Board → Option ℕ → Answer
unhindered b None = accepted
unhindered b (Some p) = refuse (cond (is_trailed (point_at b p)) PointTrailed PointElsewhere) p

-- out says whether the route's consent is out
abbrev pub set_answer : Layout → Board → Bool → ℕ → Answer
set_answer l b out r =
    cond (lacks_route l r) (refuse NoSuchNumber r)
    (cond (not (is_normal (lever_of l b r))) (refuse LeverThrown r)
    (cond (not out) (refuse ConsentHome r)
    (unhindered b (obstacle_of l b (route_of l r)))))

abbrev pub set_changed : Layout → Board → ℕ → Board
set_changed l b r = with_lever b (route_of l r).lever (toward (route_of l r).side)

-- Hold a route's field

abbrev pub hold_answer : Layout → Board → ℕ → Answer
hold_answer l b r =
    cond (lacks_route l r) (refuse NoSuchNumber r)
    (cond (not (is_set l b r)) (refuse RouteNotSet r)
    (cond (is_held (stage_at b r)) (refuse FieldHeld r)
    (cond (is_spent (stage_at b r)) (refuse ConsentSpent r)
    accepted)))

abbrev pub hold_changed : Layout → Board → ℕ → Board
hold_changed l b r = with_stage b r Held

-- Pull a signal

-- the set route of a signal
abbrev pub set_route_of : Layout → Board → ℕ → Option ℕ
set_route_of l b g = lowest (serves l b g) l.counts.routes

-- the route demands point p, which is trailed
abbrev pub fails_at : Board → Route → ℕ → Bool
fails_at b x p = fails (demand_of x p) (point_at b p)

-- the lowest such point
abbrev pub failure_of : Layout → Board → Route → Option ℕ
failure_of l b x = lowest (fails_at b x) l.counts.points

abbrev pub unfailing : Option ℕ → Answer
unfailing None = accepted
unfailing (Some p) = refuse PointTrailed p

-- by the signal's set route
abbrev pub pull_for : Layout → Board → ℕ → Option ℕ → Answer
pull_for l b g None = refuse NoSetRoute g
pull_for l b g (Some r) =
    cond (not (is_held (stage_at b r))) (refuse FieldOpen g)
    (cond (is_run (stage_at b r)) (refuse ConsentSpent g)
    (unfailing (failure_of l b (route_of l r))))

abbrev pub pull_answer : Layout → Board → ℕ → Answer
pull_answer l b g =
    cond (lacks_signal l g) (refuse NoSuchNumber g)
    (cond (is_pulled (arm_at b g)) (refuse SignalPulled g)
    (pull_for l b g (set_route_of l b g)))

abbrev pub pulled_for : Board → ℕ → Option ℕ → Board
pulled_for b g None = b
pulled_for b g (Some r) = with_stage (with_arm b g arm.Clear) r Cleared

abbrev pub pull_changed : Layout → Board → ℕ → Board
pull_changed l b g = pulled_for b g (set_route_of l b g)

-- Restore a signal

abbrev pub restore_answer : Layout → Board → ℕ → Answer
restore_answer l b g =
    cond (lacks_signal l g) (refuse NoSuchNumber g)
    (cond (not (is_pulled (arm_at b g))) (refuse SignalNormal g)
    accepted)

abbrev pub restore_changed : Layout → Board → ℕ → Board
restore_changed l b g = with_arm b g arm.Normal

-- Contact: the last axle has left the isolated rail of a route

abbrev pub contact_answer : Layout → Board → ℕ → Answer
contact_answer l b r =
    cond (lacks_route l r) (refuse NoSuchNumber r)
    (cond (not (is_cleared (stage_at b r))) (refuse NoTrainAwaited r)
    accepted)

-- the train has run, and the arm falls if it is at clear
abbrev pub contact_changed : Layout → Board → ℕ → Board
contact_changed l b r = with_arm (with_stage b r Run) (route_of l r).signal (dropped (arm_at b (route_of l r).signal))

-- Release a route's field

-- a train-worked field waits for its train, a station-worked one for a whole line
abbrev pub freed : Release → Stage → Bool → ℕ → Answer
freed Train x whole r = cond (not (is_run x)) (refuse TrainNotRun r) accepted
freed Station x whole r = cond (not whole) (Err (block_refusal LineCut r)) accepted

-- whole says whether the block's line is whole
abbrev pub release_answer : Layout → Board → Bool → ℕ → Answer
release_answer l b whole r =
    cond (lacks_route l r) (refuse NoSuchNumber r)
    (cond (not (is_held (stage_at b r))) (refuse FieldOpen r)
    (cond (is_pulled (arm_at b (route_of l r).signal)) (refuse SignalPulled r)
    (freed (route_of l r).release (stage_at b r) whole r)))

abbrev pub release_changed : Layout → Board → ℕ → Board
release_changed l b r = with_stage b r (released (stage_at b r))

-- Put a route's lever to normal

abbrev pub normal_answer : Layout → Board → ℕ → Answer
normal_answer l b r =
    cond (lacks_route l r) (refuse NoSuchNumber r)
    (cond (not (is_set l b r)) (refuse RouteNotSet r)
    (cond (is_held (stage_at b r)) (refuse FieldHeld r)
    accepted))

abbrev pub normal_changed : Layout → Board → ℕ → Board
normal_changed l b r = with_lever b (route_of l r).lever lever.Normal
