-- What the program prints.
use Rattle.std.specs.Prelude.{ℕ, List, ◌++◌, length, take, Some, None, codes, decimal, Option}
use Rattle.sheet.specs.Decode.{Outcome, accepted, refused, decode}
use Rattle.sheet.specs.Survey.{faults_of}
use Rattle.sheet.specs.declared.fault.SheetFault.{SheetFault}
use Rattle.sheet.specs.declared.layout.Counts.{Counts}
use Rattle.text.specs.Input.{sheet_in}
use Rattle.survey.specs.Words.{fault_lines}

-- a good sheet, with its counts
unfoldable pub good_line : Counts → List ℕ
good_line c =
    codes "the sheet is good: points " ++ (decimal c.points ++ (codes ", signals " ++ (decimal c.signals ++
    (codes ", route levers " ++ (decimal c.levers ++ (codes ", routes " ++ (decimal c.routes ++ codes "\n")))))))

unfoldable pub total_line : ℕ → List ℕ
total_line n = codes "faults: " ++ (decimal n ++ codes "\n")

-- all faults of a sheet, of which there are at most 96: 32 of each rule
abbrev pub fault_report : List ℕ → List SheetFault → List ℕ
fault_report s fs = total_line (length fs) ++ fault_lines s (take 96 fs)

abbrev pub report_by : Outcome → List ℕ → List ℕ
report_by (accepted l) s = good_line l.counts
report_by (refused n p) s = fault_report s (faults_of s)

abbrev pub sheet_report : List ℕ → List ℕ
sheet_report s = report_by (decode s) s

-- where the first line is no hex, or the input is too long
abbrev pub no_sheet : List ℕ
no_sheet = codes "this is no sheet: lower-case hex on the first line, two digits a byte, and at most 65536 bytes in all\n"

abbrev pub report_on : Option (List ℕ) → List ℕ
report_on (Some s) = sheet_report s
report_on None = no_sheet

abbrev pub report_of : List ℕ → List ℕ
report_of input = report_on (sheet_in input)
