-- What the duty program prints for an input.
use Rattle.std.specs.Prelude.{◌≡◌, ℕ, cond, List, [], ◌++◌, length, take, Some, None, Ok, Err, codes, Option, Result, nat_le}
use Rattle.basics.specs.declared.book.BookFault.{BookFault}
use Rattle.sheet.specs.Decode.{Outcome, accepted, refused, decode}
use Rattle.sheet.specs.declared.layout.Layout.{Layout}
use Rattle.sheet.specs.declared.plan.Plan.{Plan}
use Rattle.block.specs.Meaning.{fresh_block}
use Rattle.frame.specs.Calls.{loaded}
use Rattle.frame.specs.Law.{StandsEach}
use Rattle.frame.specs.Runs.{run_noted}
use Rattle.frame.specs.declared.entry.Entry.{Entry}
use Rattle.text.specs.Answers.{refused_line}
use Rattle.text.specs.Input.{sheet_in}
use Rattle.text.specs.Lines.{after_first_line}
use Rattle.listing.specs.Calls.{entries_of}
use Rattle.listing.specs.Lines.{entry_lines}

-- the entries with their answers: the plan is loaded over a fresh block of 32 lines, and they are worked in their order
abbrev pub worked : Layout → List Entry → List Entry
worked l entries = run_noted entries (loaded l (fresh_block 32))

-- a last line where not all entries were noted
abbrev pub closing_by : Result (Unit {0}) BookFault → List ℕ
closing_by (Ok u) = []
closing_by (Err f) = codes "? 0 37 0\n"

-- as many entries as there are rows are worked; where there are more, one line says so
abbrev pub duty_lines : ℕ → Layout → List Entry → List ℕ
duty_lines rows l entries = entry_lines (worked l (take rows entries)) ++ cond (nat_le (length entries) rows) [] (codes "? 0 37 0\n")

-- the sheet's line, with its fault's number and place or 0 and 0, and where it is accepted the lines of the calls: 1,024 rows
abbrev pub sheet_listing : Outcome → List Entry → List ℕ
sheet_listing (accepted l) entries = codes "sheet 0 0\n" ++ duty_lines 1024 l entries
sheet_listing (refused n p) entries = refused_line n p

-- one line where there is no sheet to read: no hex on the first line, or too long an input
abbrev pub listing_by : Option (List ℕ) → List Entry → List ℕ
listing_by (Some sheet) entries = sheet_listing (decode sheet) entries
listing_by None entries = codes "? 0 10 0\n"

-- a call on each line after the first
abbrev pub calls_in : List ℕ → List Entry
calls_in input = entries_of (after_first_line input)

abbrev pub listing_of : List ℕ → List ℕ
listing_of input = listing_by (sheet_in input) (calls_in input)

-- what stands behind it: on a plan that the sheet says, the duty of the calls is lawful after its loading and after each call that is
-- listed, with the answers and places that are listed
abbrev pub LawfulListing : List ℕ → Type 0
LawfulListing input = (sheet : List ℕ) (p : Plan) → sheet_in input ≡ Some sheet → decode sheet ≡ accepted p.layout
    → StandsEach p (fresh_block 32) (take 1024 (calls_in input)) (worked p.layout (take 1024 (calls_in input)))
