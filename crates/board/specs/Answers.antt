-- What a call is answered, with its number and its place; which layer refuses is the case of its fault.
use Rattle.std.specs.Prelude.{ℕ, Bool, cond, Ok, Err, Result}
use Rattle.sheet.specs.Faults.{number_of}
use Rattle.sheet.specs.declared.fault.SheetFault.{SheetFault}
use Rattle.block.specs.Faults.{fault_number}
use Rattle.block.specs.declared.fault.BlockFault.{BlockFault}
use Rattle.board.specs.declared.answer.FrameFault.{FrameFault}
use Rattle.board.specs.declared.answer.FrameFault.TheVariants.{UnknownCall, NoSuchNumber, AlreadyLoaded, TooFewLines, ConsentOut, PointTrailed, PointLocked, PointCoupled, LeverThrown, ConsentHome, PointElsewhere, RouteNotSet, FieldHeld, ConsentSpent, SignalPulled, NoSetRoute, FieldOpen, SignalNormal, NoTrainAwaited, TrainNotRun, RouteStillSet}
use Rattle.board.specs.declared.answer.Fault.{Fault}
use Rattle.board.specs.declared.answer.Fault.TheVariants.{Sheet, Frame, Block}
use Rattle.board.specs.declared.answer.Refusal.{Refusal}

abbrev pub frame_number : FrameFault → ℕ
frame_number UnknownCall = 10
frame_number NoSuchNumber = 11
frame_number AlreadyLoaded = 12
frame_number TooFewLines = 13
frame_number ConsentOut = 14
frame_number PointTrailed = 15
frame_number PointLocked = 16
frame_number PointCoupled = 17
frame_number LeverThrown = 18
frame_number ConsentHome = 19
frame_number PointElsewhere = 20
frame_number RouteNotSet = 21
frame_number FieldHeld = 22
frame_number ConsentSpent = 23
frame_number SignalPulled = 24
frame_number NoSetRoute = 25
frame_number FieldOpen = 26
frame_number SignalNormal = 27
frame_number NoTrainAwaited = 28
frame_number TrainNotRun = 29
frame_number RouteStillSet = 30

-- each layer numbers its own faults
abbrev pub number_of_fault : Fault → ℕ
number_of_fault (Sheet w) = number_of w
number_of_fault (Frame f) = frame_number f
number_of_fault (Block f) = fault_number f

abbrev pub Answer : Type 0
Answer = Result (Unit {0}) Refusal

abbrev pub accepted : Answer
accepted = Ok tt

abbrev pub answer_number : Answer → ℕ
answer_number (Ok _) = 0
answer_number (Err x) = number_of_fault x.fault

abbrev pub answer_place : Answer → ℕ
answer_place (Ok _) = 0
answer_place (Err x) = x.place

-- a refusal of the frame, and the answer that it is
abbrev pub refusal : FrameFault → ℕ → Refusal
refusal f p = record { fault = Frame f; place = p }

abbrev pub refuse : FrameFault → ℕ → Answer
refuse f p = Err (refusal f p)

-- refused where a test fails
abbrev pub checked : Bool → FrameFault → ℕ → Answer
checked b f p = cond b accepted (refuse f p)

-- a refusal of the sheet, and one of the block
abbrev pub from_sheet : SheetFault → Refusal
from_sheet x = record { fault = Sheet x.flaw; place = x.place }

abbrev pub block_refusal : BlockFault → ℕ → Refusal
block_refusal f p = record { fault = Block f; place = p }

abbrev pub from_block : Result (Unit {0}) BlockFault → ℕ → Answer
from_block (Ok _) p = accepted
from_block (Err f) p = Err (block_refusal f p)

-- what a call leaves: the new state where it is accepted, the old one where it is refused
abbrev pub settled : {X : Type 0} → Answer → X → X → X
settled (Ok _) new old = new
settled (Err _) new old = old
