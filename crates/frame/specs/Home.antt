-- How a route whose consent is out is brought home.
use Rattle.std.specs.Prelude.{◌≡◌, ℕ, ◌<◌, Bool, true, false, cond, List, [], ◌∷◌}
use Rattle.sheet.specs.declared.layout.Release.TheVariants.{Train}
use Rattle.sheet.specs.declared.plan.Plan.{Plan}
use Rattle.block.specs.Meaning.{Meaning, is_out}
use Rattle.board.specs.Answers.{accepted}
use Rattle.board.specs.Boards.{arm_at, is_held, is_pulled, is_run, is_set, route_of, stage_at}
use Rattle.board.specs.declared.board.Stage.TheVariants.{Open}
use Rattle.frame.specs.declared.call.Call.{Call}
use Rattle.frame.specs.declared.call.Call.TheVariants.{Restore, Release, Normal, Return}
use Rattle.frame.specs.declared.entry.Entry.{Entry}
use Rattle.frame.specs.Calls.{State}
use Rattle.frame.specs.Entries.{letter, unworked, entry_answer, entry_after}
use Rattle.frame.specs.Runs.{run_after}
use Rattle.frame.specs.Law.{Duty}

-- every entry is accepted, one after another
abbrev pub AllAccepted : List Entry → State → Type 0
AllAccepted [] s = Unit {0}
AllAccepted (e ∷ es) s = (entry_answer e s ≡ accepted) × AllAccepted es (entry_after e s)

abbrev pub when : Bool → Call → ℕ → List Entry → List Entry
when b c n es = cond b (unworked (letter c) n ∷ es) es

-- restore its signal if that is pulled, release its field if it is held, put its lever to normal if it is set, return its consent
abbrev pub homeward : State → ℕ → List Entry
homeward s r =
    when (is_pulled (arm_at s.board (route_of s.plan r).signal)) Restore (route_of s.plan r).signal
    (when (is_held (stage_at s.board r)) Release r
    (when (is_set s.plan s.board r) Normal r
    (when true Return r [])))

-- a field that is held for a train has had it
abbrev pub TrainGone : State → ℕ → Type 0
TrainGone s r = (route_of s.plan r).release ≡ Train → is_held (stage_at s.board r) ≡ true → is_run (stage_at s.board r) ≡ true

-- the entries bring the route home
pub record Home (s : State) (r : ℕ) (es : List Entry) : Type 0 where
  pub accepted : AllAccepted es s
  pub consent : is_out (run_after es s).block r ≡ false
  pub lever : is_set (run_after es s).plan (run_after es s).board r ≡ false
  pub field : stage_at (run_after es s).board r ≡ Open

-- at any moment of a duty with the line whole, a route of the plan that is out can be brought home
abbrev pub Homing : Type 0
Homing = (p : Plan) (m : Meaning) (past : List Entry) (s : State) → Duty p m past s → (r : ℕ) → r < s.plan.counts.routes → is_out s.block r ≡ true → s.block.whole ≡ true → TrainGone s r → Home s r (homeward s r)
