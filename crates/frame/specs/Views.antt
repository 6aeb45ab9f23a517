-- How a frame stands, whatever its block is made of, and what the contracts say of it.
use Rattle.std.specs.Prelude.{◌≡◌, ℕ, List, []}
use Rattle.sheet.specs.declared.plan.Plan.{Plan}
use Rattle.block.specs.Meaning.{Meaning}
use Rattle.board.specs.Answers.{Answer, accepted}
use Rattle.frame.specs.declared.call.Call.{Call}
use Rattle.frame.specs.declared.entry.Entry.{Entry}
use Rattle.frame.specs.declared.frame.Frame.{Frame}
use Rattle.frame.specs.Calls.{State, answer_of, after, load_answer, load_after}
use Rattle.frame.specs.Runs.{run_after, run_noted, duty_after, duty_noted}
use Rattle.frame.specs.Law.{Stands, StandsEach, GoesOn, GoesOnEach}

abbrev pub view : {B : Type 0} → (B → Meaning) → Frame B → State
view meaning f = record { plan = f.plan.layout; board = f.board; block = meaning f.block }

-- a call is worked by the rules: from s it answers a and leaves t
pub record Ruled (c : Call) (n : ℕ) (s t : State) (a : Answer) : Type 0 where
  pub answers : a ≡ answer_of c n s
  pub leaves : t ≡ after c n s

abbrev pub Works : {B : Type 0} → (B → Meaning) → Call → ℕ → Frame B → Frame B → Answer → Type 0
Works meaning c n f f' a = Ruled c n (view meaning f) (view meaning f') a

-- a plan is loaded by the rules: where it is accepted, a duty begins
pub record RuledLoad (p : Plan) (s t : State) (a : Answer) : Type 0 where
  pub answers : a ≡ load_answer p.layout s
  pub leaves : t ≡ load_after p.layout s
  pub stands : a ≡ accepted → Stands p s.block [] t

abbrev pub Loads : {B : Type 0} → (B → Meaning) → Plan → Frame B → Frame B → Answer → Type 0
Loads meaning p f f' a = RuledLoad p (view meaning f) (view meaning f') a

-- a list is worked by the rules, entry by entry (es as it was handed over, worked as it is now): every duty goes on by it, and
-- is lawful at each of its moments
pub record RuledRun (es worked : List Entry) (s t : State) : Type 0 where
  pub notes : worked ≡ run_noted es s
  pub leaves : t ≡ run_after es s
  pub goes : GoesOn s worked t
  pub each : GoesOnEach s es worked

abbrev pub Runs : {B : Type 0} → (B → Meaning) → List Entry → List Entry → Frame B → Frame B → Type 0
Runs meaning es worked f f' = RuledRun es worked (view meaning f) (view meaning f')

-- a duty: a loading by the rules and, where it is accepted, a list, lawful from the loading to the last entry
pub record RuledDuty (p : Plan) (es worked : List Entry) (s t : State) (a : Answer) : Type 0 where
  pub answers : a ≡ load_answer p.layout s
  pub notes : worked ≡ duty_noted a p.layout s es
  pub leaves : t ≡ duty_after a p.layout s es
  pub stands : a ≡ accepted → Stands p s.block worked t
  pub each : a ≡ accepted → StandsEach p s.block es worked

abbrev pub Serves : {B : Type 0} → (B → Meaning) → Plan → List Entry → List Entry → Frame B → Frame B → Answer → Type 0
Serves meaning p es worked f f' a = RuledDuty p es worked (view meaning f) (view meaning f') a
