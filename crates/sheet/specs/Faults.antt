-- The number of each fault of a sheet.
use Rattle.std.specs.Prelude.{ℕ}
use Rattle.sheet.specs.declared.fault.Flaw.{Flaw}
use Rattle.sheet.specs.declared.fault.Flaw.TheVariants.{EndsInside, WrongEdition, CountOutside, NumberTooHigh, BadPointCode, BadFilling, SharedLever, IdleLever, IdleSignal, BlankPlan, NoRoom}

abbrev pub number_of : Flaw → ℕ
number_of EndsInside = 1
number_of WrongEdition = 2
number_of CountOutside = 3
number_of NumberTooHigh = 4
number_of BadPointCode = 5
number_of BadFilling = 6
number_of SharedLever = 7
number_of IdleLever = 8
number_of IdleSignal = 9
number_of BlankPlan = 11
number_of NoRoom = 37
