-- The law of a duty: what holds after the loading and after each call, of how all stands and of all that has been worked.
use Rattle.std.specs.Prelude.{◌≡◌, ℕ, ◌+◌, ◌<◌, ◌≤◌, Bool, true, false, cond, ◌&&◌, ◌||◌, List, [], ◌∷◌, ◌++◌, length, take, fold, Some, None, Option, ◌==◌}
use Rattle.sheet.specs.Hostility.{are_hostile}
use Rattle.sheet.specs.Layouts.{demand_of}
use Rattle.sheet.specs.declared.layout.Position.{Position}
use Rattle.sheet.specs.declared.plan.Plan.{Plan}
use Rattle.block.specs.Meaning.{Meaning, WellFormed, is_out}
use Rattle.board.specs.Boards.{is_set, is_signalled, arm_at, stage_at, point_at, route_of}
use Rattle.board.specs.declared.board.Coupling.TheVariants.{Coupled}
use Rattle.board.specs.declared.board.Point.{Point}
use Rattle.board.specs.declared.board.Stage.TheVariants.{Cleared}
use Rattle.board.specs.declared.board.Arm.TheVariants.{Clear}
use Rattle.frame.specs.declared.call.Call.{Call}
use Rattle.frame.specs.declared.call.Call.TheVariants.{Give, Contact, Return}
use Rattle.frame.specs.declared.entry.Entry.{Entry}
use Rattle.frame.specs.Calls.{State, answer_of, after, loaded}
use Rattle.frame.specs.Entries.{letter, called, noted, entry_answer, entry_after}
use Rattle.frame.specs.Runs.{run_after}

-- A duty

-- how all stands (s) after a list of worked entries (past, the newest last), each with its answer and place: a plan p is loaded
-- over a block that has lines for its routes and no consent out (m is what the block means then), and entries are worked on it
pub data Duty (p : Plan) (m : Meaning) : List Entry → State → Type 0 where
  loading : 0 < p.layout.counts.routes → WellFormed m → p.layout.counts.routes ≤ m.lines → ((r : ℕ) → is_out m r ≡ false) → Duty p m [] (loaded p.layout m)
  calling : {past : List Entry} {s : State} → Duty p m past s → (e : Entry) → Duty p m (past ++ (noted e (entry_answer e s) ∷ [])) (entry_after e s)

-- Its history

-- the entry is an accepted call with number r
abbrev pub did : Call → ℕ → Entry → Bool
did c r e = e.letter == letter c && (e.number == r && e.answer == 0)

abbrev pub one : Bool → ℕ
one b = cond b 1 0

-- how many accepted calls with number r stand in a list
abbrev pub count : Call → ℕ → List Entry → ℕ
count c r [] = 0
count c r (e ∷ es) = one (did c r e) + count c r es

-- a route's train has run from an accepted contact until the next accepted give: whether it has, after one entry more
abbrev pub ran_next : ℕ → Bool → Entry → Bool
ran_next r ran e = cond (did Give r e) false (cond (did Contact r e) true ran)

abbrev pub has_run : ℕ → List Entry → Bool
has_run r past = fold (ran_next r) false past

-- What is lawful

-- a route's consent is out, or it is set or signalled
abbrev pub in_use : State → ℕ → Bool
in_use s r = is_out s.block r || (is_set s.plan s.board r || is_signalled s.plan s.board r)

-- of two hostile routes never both are in use
abbrev pub OneOfTwo : State → Type 0
OneOfTwo s = (r q : ℕ) → are_hostile s.plan r q ≡ true → in_use s r ≡ true → in_use s q ≡ false

-- a point is coupled and in the position that is demanded of it
abbrev pub StandsAs : Option Position → Point → Type 0
StandsAs None x = Unit {0}
StandsAs (Some y) x = (x.coupling ≡ Coupled) × (x.position ≡ y)

-- route r guards signal g
pub record Guarded (s : State) (past : List Entry) (g r : ℕ) : Type 0 where
  -- it is the one set route of the signal
  pub set : is_set s.plan s.board r ≡ true
  pub signal : (route_of s.plan r).signal ≡ g
  pub only : (q : ℕ) → is_set s.plan s.board q ≡ true → (route_of s.plan q).signal ≡ g → q ≡ r
  -- its consent is out, its field is held and cleared, and its train has not run yet
  pub consented : is_out s.block r ≡ true
  pub cleared : stage_at s.board r ≡ Cleared
  pub awaited : has_run r past ≡ false
  -- every point that it demands is coupled and in position
  pub points : (p : ℕ) → p < s.plan.counts.points → StandsAs (demand_of (route_of s.plan r) p) (point_at s.board p)

-- every arm at clear is guarded
abbrev pub ClearGuarded : State → List Entry → Type 0
ClearGuarded s past = (g : ℕ) → arm_at s.board g ≡ Clear → (r : ℕ) × Guarded s past g r

pub record Lawful (s : State) (past : List Entry) : Type 0 where
  pub apart : OneOfTwo s
  pub guarded : ClearGuarded s past
  -- a route's accepted gives are its accepted returns, and one more while its consent is out
  pub balanced : (r : ℕ) → count Give r past ≡ count Return r past + one (is_out s.block r)
  -- a consent has one train at most
  pub trains : (r : ℕ) → count Contact r past ≤ count Give r past

-- whatever a duty has come to is lawful
abbrev pub Law : Type 0
Law = (p : Plan) (m : Meaning) (past : List Entry) (s : State) → Duty p m past s → Lawful s past

-- What calls and lists promise

-- a duty stands at s, under its plan, and lawfully
pub record Stands (p : Plan) (m : Meaning) (past : List Entry) (s : State) : Type 0 where
  pub duty : Duty p m past s
  pub planned : s.plan ≡ p.layout
  pub lawful : Lawful s past

-- whatever duty stood at s stands at t, with these entries more
abbrev pub GoesOn : State → List Entry → State → Type 0
GoesOn s worked t = (p : Plan) (m : Meaning) (past : List Entry) → Duty p m past s → Stands p m (past ++ worked) t

-- and so at each moment of a list: after its first k entries, as they were handed over (es) and as they are now (worked)
abbrev pub GoesOnEach : State → List Entry → List Entry → Type 0
GoesOnEach s es worked = (k : ℕ) → k ≤ length es → GoesOn s (take k worked) (run_after (take k es) s)

-- a duty from its loading, at each moment of a list
abbrev pub StandsEach : Plan → Meaning → List Entry → List Entry → Type 0
StandsEach p m es worked = (k : ℕ) → k ≤ length es → Stands p m (take k worked) (run_after (take k es) (loaded p.layout m))

-- each call takes every duty one entry on
abbrev pub CallsGoOn : Type 0
CallsGoOn = (c : Call) (n : ℕ) (s : State) → GoesOn s (called c n (answer_of c n s) ∷ []) (after c n s)
