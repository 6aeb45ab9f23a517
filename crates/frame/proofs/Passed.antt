-- What an accepted call has passed.
use Rattle.std.proofs.Common.{◌≡◌, ℕ, ◌<◌, ◌≤◌, true, false, Some, None, arith}
use Rattle.sheet.specs.Hostility.{hostiles_of}
use Rattle.sheet.specs.declared.layout.Layout.{Layout}
use Rattle.block.specs.Meaning.{is_out, any_out}
use Rattle.board.specs.Answers.{accepted}
use Rattle.board.specs.Boards.{is_trailed, is_normal, is_held, is_cleared, is_run, is_spent, is_pulled, point_at, stage_at, arm_at, lever_of, route_of, is_set}
use Rattle.board.specs.Calls.{is_locked, obstacle_of, set_route_of, failure_of, pull_for}
use Rattle.board.specs.declared.board.Board.{Board}
use Rattle.frame.specs.declared.call.Call.TheVariants.{Give, Throw, Trail, Recouple, Set, Hold, Pull, Restore, Contact, Release, Normal, Return}
use Rattle.frame.specs.Calls.{State, answer_of, every_route, load_answer}

abbrev pub routes : State → ℕ
routes s = s.plan.counts.routes

pub give_passed : (r : ℕ) (s : State) → answer_of Give r s ≡ accepted → (r < routes s) × (r < s.block.lines) × (is_out s.block r ≡ false) × (any_out s.block (hostiles_of s.plan r) ≡ false)
give_passed r s h = grind arith

pub throw_passed : (p : ℕ) (s : State) → answer_of Throw p s ≡ accepted → (p < s.plan.counts.points) × (is_trailed (point_at s.board p) ≡ false) × (is_locked s.plan s.board p ≡ false)
throw_passed p s h = grind arith

pub trail_passed : (p : ℕ) (s : State) → answer_of Trail p s ≡ accepted → p < s.plan.counts.points
trail_passed p s h = grind arith

pub recouple_passed : (p : ℕ) (s : State) → answer_of Recouple p s ≡ accepted → p < s.plan.counts.points
recouple_passed p s h = grind arith

pub set_passed : (r : ℕ) (s : State) → answer_of Set r s ≡ accepted → (r < routes s) × (is_normal (lever_of s.plan s.board r) ≡ true) × (is_out s.block r ≡ true) × (obstacle_of s.plan s.board (route_of s.plan r) ≡ None)
set_passed r s h = grind arith

pub hold_passed : (r : ℕ) (s : State) → answer_of Hold r s ≡ accepted → (r < routes s) × (is_set s.plan s.board r ≡ true) × (is_held (stage_at s.board r) ≡ false) × (is_spent (stage_at s.board r) ≡ false)
hold_passed r s h = grind arith

pub pull_passed : (g : ℕ) (s : State) → answer_of Pull g s ≡ accepted → (g < s.plan.counts.signals) × (pull_for s.plan s.board g (set_route_of s.plan s.board g) ≡ accepted)
pull_passed g s h = grind arith

pub pull_for_passed : (l : Layout) (b : Board) (g r : ℕ) → pull_for l b g (Some r) ≡ accepted → (is_held (stage_at b r) ≡ true) × (is_run (stage_at b r) ≡ false) × (failure_of l b (route_of l r) ≡ None)
pull_for_passed l b g r h = grind arith

pub restore_passed : (g : ℕ) (s : State) → answer_of Restore g s ≡ accepted → g < s.plan.counts.signals
restore_passed g s h = grind arith

pub contact_passed : (r : ℕ) (s : State) → answer_of Contact r s ≡ accepted → (r < routes s) × (is_cleared (stage_at s.board r) ≡ true)
contact_passed r s h = grind arith

pub release_passed : (r : ℕ) (s : State) → answer_of Release r s ≡ accepted → (r < routes s) × (is_pulled (arm_at s.board (route_of s.plan r).signal) ≡ false)
release_passed r s h = grind arith

pub normal_passed : (r : ℕ) (s : State) → answer_of Normal r s ≡ accepted → (r < routes s) × (is_set s.plan s.board r ≡ true) × (is_held (stage_at s.board r) ≡ false)
normal_passed r s h = grind arith

pub return_passed : (r : ℕ) (s : State) → answer_of Return r s ≡ accepted → (r < routes s) × (r < s.block.lines) × (is_set s.plan s.board r ≡ false) × (is_out s.block r ≡ true)
return_passed r s h = grind arith

pub load_passed : (l : Layout) (s : State) → load_answer l s ≡ accepted → (0 < l.counts.routes) × (l.counts.routes ≤ s.block.lines) × (any_out s.block every_route ≡ false)
load_passed l s h = grind arith
