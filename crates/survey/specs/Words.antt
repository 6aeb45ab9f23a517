-- A fault in plain words.
use Rattle.std.specs.Prelude.{ℕ, zero, suc, ◌+◌, ◌-◌, ◌*◌, ◌/◌, ◌%◌, cond, List, [], ◌∷◌, ◌++◌, Some, None, codes, decimal, Option, nat_lt}
use Rattle.std.specs.List.{flat_map}
use Rattle.sheet.specs.Faults.{number_of}
use Rattle.sheet.specs.declared.fault.SheetFault.{SheetFault}
use Rattle.sheet.specs.declared.fault.Flaw.{Flaw}
use Rattle.sheet.specs.declared.fault.Flaw.TheVariants.{EndsInside, WrongEdition, CountOutside, NumberTooHigh, BadPointCode, BadFilling, SharedLever, IdleLever, IdleSignal, BlankPlan, NoRoom}

abbrev pub meaning_of : Flaw → List ℕ
meaning_of EndsInside = codes "the sheet ends inside the field that begins here"
meaning_of WrongEdition = codes "the edition is not 1"
meaning_of CountOutside = codes "this count is outside its limits (points 0 to 32, signals 1 to 32, route levers 1 to 16, routes 1 to 32)"
meaning_of NumberTooHigh = codes "a route names a lever or a signal here that the plan has not"
meaning_of BadPointCode = codes "this point has the code 3 (nothing is 0, plus is 1, minus is 2)"
meaning_of BadFilling = codes "the sheet is over here: only zeros may follow, and only up to a whole byte"
meaning_of SharedLever = codes "a lower route has the same lever and side"
meaning_of IdleLever = codes "no route uses it"
meaning_of IdleSignal = codes "no route uses it"
meaning_of BlankPlan = codes "a blank plan has no sheet"
meaning_of NoRoom = codes "the buffer is too short"

-- of m routes from route r on, whose fields begin at bit start, the one that has bit i: of p points and n routes
abbrev pub holding : ℕ → ℕ → ℕ → ℕ → ℕ → ℕ → Option ℕ
holding p n i zero r start = None
holding p n i (suc m) r start =
    cond (nat_lt i (start + (11 + 2 * p + (n - (r + 1))))) (Some r) (holding p n i m (r + 1) (start + (11 + 2 * p + (n - (r + 1)))))

-- the route that has bit i, by the counts in the head: points in bits 4 to 9, routes in bits 21 to 26
abbrev pub route_holding : List ℕ → ℕ → Option ℕ
route_holding [] i = None
route_holding (a ∷ []) i = None
route_holding (a ∷ b ∷ []) i = None
route_holding (a ∷ b ∷ c ∷ []) i = None
route_holding (a ∷ b ∷ c ∷ d ∷ rest) i = holding (a % 16 * 4 + b / 64) (c % 8 * 8 + d / 32) i (c % 8 * 8 + d / 32) 0 27

abbrev pub part_by : Option ℕ → List ℕ
part_by (Some r) = codes "in route " ++ decimal r
part_by None = codes "after the last route"

-- the part of a sheet that bit i stands in
unfoldable pub part_of : List ℕ → ℕ → List ℕ
part_of s i = cond (nat_lt i 27) (codes "in the head") (part_by (route_holding s i))

-- bit i, with its byte, its place there, and the part of the sheet
abbrev pub bit_words : ℕ → List ℕ → List ℕ
bit_words i part =
    codes "bit " ++ (decimal i ++ (codes " (byte " ++ (decimal (i / 8) ++ (codes ", bit " ++ (decimal (i % 8) ++ (codes " from its top, " ++ (part ++ codes ")")))))))

abbrev pub bit_spot : List ℕ → ℕ → List ℕ
bit_spot s i = bit_words i (part_of s i)

-- what a fault's place counts, where that is not bits
abbrev pub counted_by : Flaw → Option (List ℕ)
counted_by EndsInside = None
counted_by WrongEdition = None
counted_by CountOutside = None
counted_by NumberTooHigh = None
counted_by BadPointCode = None
counted_by BadFilling = None
counted_by SharedLever = Some (codes "route")
counted_by IdleLever = Some (codes "route lever")
counted_by IdleSignal = Some (codes "signal")
counted_by BlankPlan = None
counted_by NoRoom = None

abbrev pub spot_by : Option (List ℕ) → List ℕ → ℕ → List ℕ
spot_by (Some thing) s p = thing ++ (codes " " ++ decimal p)
spot_by None s p = bit_spot s p

-- where a fault of a sheet stands
abbrev pub spot_of : List ℕ → SheetFault → List ℕ
spot_of s f = spot_by (counted_by f.flaw) s f.place

-- a fault's number, where it stands and what it means
abbrev pub line_of : ℕ → List ℕ → List ℕ → List ℕ
line_of n spot meaning = codes "fault " ++ (decimal n ++ (codes " at " ++ (spot ++ (codes ": " ++ (meaning ++ codes "\n")))))

abbrev pub fault_line : List ℕ → SheetFault → List ℕ
fault_line s f = line_of (number_of f.flaw) (spot_of s f) (meaning_of f.flaw)

-- a line for each fault
abbrev pub fault_lines : List ℕ → List SheetFault → List ℕ
fault_lines s fs = flat_map (fault_line s) fs
