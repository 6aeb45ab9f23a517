-- What the program prints for an input.
use Rattle.std.specs.Prelude.{ℕ, List, Some, None, codes, Option}
use Rattle.sheet.specs.Decode.{Outcome, accepted, refused, decode}
use Rattle.text.specs.Answers.{refused_line}
use Rattle.text.specs.Input.{sheet_in}

-- the line of a sheet with its fault's number and place, 0 and 0 where it is accepted
abbrev pub outcome_line : Outcome → List ℕ
outcome_line (accepted l) = codes "sheet 0 0\n"
outcome_line (refused n p) = refused_line n p

abbrev pub sheet_line : List ℕ → List ℕ
sheet_line bytes = outcome_line (decode bytes)

-- one line where there is no sheet to read: no hex on the first line, or too long an input
abbrev pub listing_by : Option (List ℕ) → List ℕ
listing_by (Some sheet) = sheet_line sheet
listing_by None = codes "? 0 10 0\n"

abbrev pub listing_of : List ℕ → List ℕ
listing_of input = listing_by (sheet_in input)
