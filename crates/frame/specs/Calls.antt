-- What each call answers, and how all stands after an accepted one, over the board and the meaning of the block.
use Rattle.std.specs.Prelude.{ℕ, Bool, true, false, cond, List, replicate, ◌==◌, nat_lt}
use Rattle.sheet.specs.Hostility.{hostiles_of}
use Rattle.sheet.specs.declared.layout.Layout.{Layout}
use Rattle.block.specs.Meaning.{Meaning, is_out, any_out, with_out, with_whole}
use Rattle.block.specs.Calls.{give_answer, return_answer, cut_answer, mend_answer}
use Rattle.board.specs.Answers.{Answer, accepted, refuse, from_block, settled}
use Rattle.board.specs.Boards.{fresh, is_set, lacks_route, with_stage}
use Rattle.board.specs.Calls.{throw_answer, throw_changed, trail_answer, trail_changed, recouple_answer, recouple_changed, set_answer, set_changed, hold_answer, hold_changed, pull_answer, pull_changed, restore_answer, restore_changed, contact_answer, contact_changed, release_answer, release_changed, normal_answer, normal_changed}
use Rattle.board.specs.declared.answer.FrameFault.TheVariants.{NoSuchNumber, AlreadyLoaded, TooFewLines, ConsentOut, RouteStillSet}
use Rattle.board.specs.declared.board.Board.{Board}
use Rattle.board.specs.declared.board.Stage.TheVariants.{Open}
use Rattle.frame.specs.declared.call.Call.{Call}
use Rattle.frame.specs.declared.call.Call.TheVariants.{Give, Throw, Trail, Recouple, Set, Hold, Pull, Restore, Contact, Release, Normal, Return, Cut, Mend}

-- how all stands: the plan, what moves on the board, and what the block means
pub record State : Type 0 where
  pub plan : Layout
  pub board : Board
  pub block : Meaning

abbrev pub with_board : State → Board → State
with_board s b = record { plan = s.plan; board = b; block = s.block }

abbrev pub with_block : State → Meaning → State
with_block s m = record { plan = s.plan; board = s.board; block = m }

-- give and return go to the block, a give with all routes that are hostile to r
abbrev pub give_from : State → ℕ → Answer
give_from s r =
    cond (lacks_route s.plan r) (refuse NoSuchNumber r)
    (from_block (give_answer s.block r (hostiles_of s.plan r)) r)

abbrev pub return_to : State → ℕ → Answer
return_to s r =
    cond (lacks_route s.plan r) (refuse NoSuchNumber r)
    (cond (is_set s.plan s.board r) (refuse RouteStillSet r)
    (from_block (return_answer s.block r) r))

-- what a call with number n answers; a cut and a mend have no number
abbrev pub answer_of : Call → ℕ → State → Answer
answer_of Give r s = give_from s r
answer_of Throw p s = throw_answer s.plan s.board p
answer_of Trail p s = trail_answer s.plan s.board p
answer_of Recouple p s = recouple_answer s.plan s.board p
answer_of Set r s = set_answer s.plan s.board (is_out s.block r) r
answer_of Hold r s = hold_answer s.plan s.board r
answer_of Pull g s = pull_answer s.plan s.board g
answer_of Restore g s = restore_answer s.plan s.board g
answer_of Contact r s = contact_answer s.plan s.board r
answer_of Release r s = release_answer s.plan s.board s.block.whole r
answer_of Normal r s = normal_answer s.plan s.board r
answer_of Return r s = return_to s r
answer_of Cut n s = from_block (cut_answer s.block) 0
answer_of Mend n s = from_block (mend_answer s.block) 0

-- how all stands after it, where it is accepted
abbrev pub changed : Call → ℕ → State → State
changed Give r s = with_block s (with_out s.block r true)
changed Throw p s = with_board s (throw_changed s.plan s.board p)
changed Trail p s = with_board s (trail_changed s.plan s.board p)
changed Recouple p s = with_board s (recouple_changed s.plan s.board p)
changed Set r s = with_board s (set_changed s.plan s.board r)
changed Hold r s = with_board s (hold_changed s.plan s.board r)
changed Pull g s = with_board s (pull_changed s.plan s.board g)
changed Restore g s = with_board s (restore_changed s.plan s.board g)
changed Contact r s = with_board s (contact_changed s.plan s.board r)
changed Release r s = with_board s (release_changed s.plan s.board r)
changed Normal r s = with_board s (normal_changed s.plan s.board r)
changed Return r s = with_board (with_block s (with_out s.block r false)) (with_stage s.board r Open)
changed Cut n s = with_block s (with_whole s.block false)
changed Mend n s = with_block s (with_whole s.block true)

-- a refused call changes nothing
abbrev pub after : Call → ℕ → State → State
after c n s = settled (answer_of c n s) (changed c n s) s

-- Loading

-- every route that there can be
abbrev pub every_route : List Bool
every_route = replicate 32 true

abbrev pub load_answer : Layout → State → Answer
load_answer l s =
    cond (nat_lt 0 s.plan.counts.routes) (refuse AlreadyLoaded 0)
    (cond (l.counts.routes == 0) (refuse NoSuchNumber 0)
    (cond (nat_lt s.block.lines l.counts.routes) (refuse TooFewLines 0)
    (cond (any_out s.block every_route) (refuse ConsentOut 0)
    accepted)))

-- the plan under a fresh board, over what the block means
abbrev pub loaded : Layout → Meaning → State
loaded l m = record { plan = l; board = fresh; block = m }

abbrev pub load_after : Layout → State → State
load_after l s = settled (load_answer l s) (loaded l s.block) s
