-- The worked duty on the worked sheet, what else is answered there, and states that are reached: computed from the rules.
use Rattle.std.specs.Prelude.{Bool, true, false, List, [], ◌∷◌, ◌++◌, map, ◌≡◌, ℕ, take, replicate, Option, Some, None}
use Rattle.sheet.specs.Decode.{accepted, decode}
use Rattle.sheet.specs.Layouts.{no_route}
use Rattle.sheet.specs.Worked.{Answer, answers, answer_of, copies, worked_sheet}
use Rattle.sheet.specs.declared.layout.Side.{Side}
use Rattle.sheet.specs.declared.layout.Side.TheVariants.{Up, Down}
use Rattle.sheet.specs.declared.layout.Release.{Release as ReleasedBy}
use Rattle.sheet.specs.declared.layout.Release.TheVariants.{Station, Train}
use Rattle.sheet.specs.declared.layout.Position.{Position}
use Rattle.sheet.specs.declared.layout.Position.TheVariants.{Plus, Minus}
use Rattle.sheet.specs.declared.layout.Route.{Route}
use Rattle.sheet.specs.declared.layout.Layout.{Layout}
use Rattle.block.specs.Meaning.{fresh_block}
use Rattle.board.specs.Boards.{arm_at, stage_at}
use Rattle.board.specs.declared.board.Stage.{Stage}
use Rattle.board.specs.declared.board.Stage.TheVariants.{Open, Cleared, Run, Spent}
use Rattle.board.specs.declared.board.Arm.{Arm}
use Rattle.board.specs.declared.board.Arm.TheVariants as arm
use Rattle.frame.specs.declared.call.Call.{Call}
use Rattle.frame.specs.declared.call.Call.TheVariants.{Give, Throw, Trail, Recouple, Set, Hold, Pull, Restore, Contact, Release, Normal, Return, Cut, Mend}
use Rattle.frame.specs.declared.entry.Entry.{Entry}
use Rattle.frame.specs.Calls.{State, loaded}
use Rattle.frame.specs.Entries.{letter, unworked}
use Rattle.frame.specs.Runs.{run_after, run_noted}

-- one point; routes 0 and 1 on the two sides of lever 0 and on signal 0, plus and minus; route 2 on lever 1 and signal 1, plus
-- and train-worked
abbrev pub worked_route : ℕ → Side → ℕ → ReleasedBy → Option Position → Route
worked_route v x g f d = record { lever = v; side = x; signal = g; release = f; demands = d ∷ replicate 31 None; named = replicate 32 false }

abbrev pub worked_plan : Layout
worked_plan = record {
  counts = record { points = 1; signals = 2; levers = 2; routes = 3 };
  routes = worked_route 0 Up 0 Station (Some Plus) ∷ worked_route 0 Down 0 Station (Some Minus) ∷ worked_route 1 Up 1 Train (Some Plus) ∷ replicate 29 no_route;
}

-- it is loaded over a fresh block
abbrev pub start : State
start = loaded worked_plan (fresh_block 32)

abbrev pub call : Call → ℕ → Entry
call c n = unworked (letter c) n

abbrev pub worked_duty : List Entry
worked_duty =
    call Set 0 ∷ call Give 0 ∷ call Give 1 ∷ call Set 0 ∷ call Throw 0 ∷ call Pull 0 ∷ call Hold 0 ∷ call Pull 0 ∷ call Trail 0 ∷ call Restore 0 ∷
    call Pull 0 ∷ call Recouple 0 ∷ call Pull 0 ∷ call Contact 0 ∷ call Release 0 ∷ call Restore 0 ∷ call Release 0 ∷ call Normal 0 ∷ call Return 0 ∷ []

abbrev pub at : ℕ → ℕ → Answer
at n p = record { number = n; place = p }

abbrev pub ok : Answer
ok = at 0 0

-- what the entries of a list are answered, worked from the start
abbrev pub said : List Entry → List Answer
said es = map (λ e. at e.answer e.place) (run_noted es start)

-- the sheet and its damaged copies; the worked duty and then a give that was hostile in it; a hold after the train has run and
-- the field was released; friendly and hostile gives; a release without a train; a give on a cut line; a mend of a whole one
abbrev pub examples : List Answer
examples =
    map (λ s. answer_of (decode s)) copies ++
    (said (worked_duty ++ (call Give 1 ∷ [])) ++
    (said (take 17 worked_duty ++ (call Hold 0 ∷ [])) ++
    (said (call Give 0 ∷ call Give 2 ∷ call Give 1 ∷ []) ++
    (said (call Give 2 ∷ call Set 2 ∷ call Hold 2 ∷ call Release 2 ∷ []) ++
    (said (call Cut 0 ∷ call Give 0 ∷ []) ++
    said (call Mend 0 ∷ []))))))

abbrev pub duty_answers : List Answer
duty_answers =
    at 19 0 ∷ ok ∷ at 33 1 ∷ ok ∷ at 16 0 ∷ at 26 0 ∷ ok ∷ ok ∷ ok ∷ ok ∷
    at 15 0 ∷ ok ∷ ok ∷ ok ∷ at 24 0 ∷ ok ∷ ok ∷ ok ∷ ok ∷ []

abbrev pub expected : List Answer
expected =
    answers ++
    ((duty_answers ++ (ok ∷ [])) ++
    ((take 17 duty_answers ++ (at 23 0 ∷ [])) ++
    ((ok ∷ ok ∷ at 33 1 ∷ []) ++
    ((ok ∷ ok ∷ ok ∷ at 29 2 ∷ []) ++
    ((ok ∷ at 31 0 ∷ []) ++
    (at 35 0 ∷ []))))))

-- States that are reached: what stands of routes 0 and 2, which are friendly, and of the line
pub record Sight : Type 0 where
  pub arms : List Arm
  pub fields : List Stage
  pub whole : Bool

abbrev pub sight_of : State → Sight
sight_of s = record { arms = arm_at s.board 0 ∷ arm_at s.board 1 ∷ []; fields = stage_at s.board 0 ∷ stage_at s.board 2 ∷ []; whole = s.block.whole }

-- route 0 and then route 2 are brought to an arm at clear
abbrev pub cleared : List Entry
cleared = call Give 0 ∷ call Set 0 ∷ call Hold 0 ∷ call Pull 0 ∷ []

abbrev pub both_cleared : List Entry
both_cleared = cleared ++ (call Give 2 ∷ call Set 2 ∷ call Hold 2 ∷ call Pull 1 ∷ [])

-- an arm at clear, two at once, both fallen over the trailed point, one fallen behind its train, a spent field, and a cut line
abbrev pub ways : List (List Entry)
ways =
    cleared ∷
    both_cleared ∷
    (both_cleared ++ (call Trail 0 ∷ [])) ∷
    (both_cleared ++ (call Contact 2 ∷ [])) ∷
    (cleared ++ (call Contact 0 ∷ call Restore 0 ∷ call Release 0 ∷ [])) ∷
    (cleared ++ (call Cut 0 ∷ [])) ∷ []

abbrev pub sights : List Sight
sights = map (λ es. sight_of (run_after es start)) ways

abbrev pub seen : List Sight
seen =
    record { arms = arm.Clear ∷ arm.Normal ∷ []; fields = Cleared ∷ Open ∷ []; whole = true } ∷
    record { arms = arm.Clear ∷ arm.Clear ∷ []; fields = Cleared ∷ Cleared ∷ []; whole = true } ∷
    record { arms = arm.Fallen ∷ arm.Fallen ∷ []; fields = Cleared ∷ Cleared ∷ []; whole = true } ∷
    record { arms = arm.Clear ∷ arm.Fallen ∷ []; fields = Cleared ∷ Run ∷ []; whole = true } ∷
    record { arms = arm.Normal ∷ arm.Normal ∷ []; fields = Spent ∷ Open ∷ []; whole = true } ∷
    record { arms = arm.Clear ∷ arm.Normal ∷ []; fields = Cleared ∷ Open ∷ []; whole = false } ∷ []

-- the sheet says the plan, the examples are answered as expected, and the states are reached
pub record ExamplesStand : Type 0 where
  pub plan : decode worked_sheet ≡ accepted worked_plan
  pub answered : examples ≡ expected
  pub reached : sights ≡ seen
