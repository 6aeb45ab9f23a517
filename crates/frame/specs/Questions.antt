-- What a frame shows of the numbers that its plan has.
use Rattle.std.specs.Prelude.{ℕ, Bool, cond, Some, None, Option, nat_lt}
use Rattle.board.specs.Boards.{point_at, lever_at, stage_at, arm_at}
use Rattle.board.specs.declared.board.Point.{Point}
use Rattle.board.specs.declared.board.Lever.{Lever}
use Rattle.board.specs.declared.board.Stage.{Stage}
use Rattle.board.specs.declared.board.Arm.{Arm}
use Rattle.frame.specs.Calls.{State}

-- a blank plan is none
abbrev pub is_loaded : State → Bool
is_loaded s = nat_lt 0 s.plan.counts.routes

-- the first n are there
abbrev pub shown : {X : Type 0} → ℕ → ℕ → X → Option X
shown n k x = cond (nat_lt k n) (Some x) None

abbrev pub point_shown : State → ℕ → Option Point
point_shown s p = shown s.plan.counts.points p (point_at s.board p)

abbrev pub lever_shown : State → ℕ → Option Lever
lever_shown s v = shown s.plan.counts.levers v (lever_at s.board v)

abbrev pub field_shown : State → ℕ → Option Stage
field_shown s r = shown s.plan.counts.routes r (stage_at s.board r)

abbrev pub arm_shown : State → ℕ → Option Arm
arm_shown s g = shown s.plan.counts.signals g (arm_at s.board g)
