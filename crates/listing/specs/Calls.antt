-- The calls of a duty, from the lines of its input.
use Rattle.std.specs.Prelude.{ℕ, ◌-◌, Bool, cond, ◌&&◌, List, [], ◌∷◌, map, length, None, Ok, Err, Option, Result, ◌==◌, nat_le}
use Rattle.std.specs.Option.{option_map, unwrap_or}
use Rattle.basics.specs.declared.book.BookFault.{BookFault}
use Rattle.basics.specs.declared.book.BookFault.TheVariants.{Full}
use Rattle.frame.specs.Entries.{unworked}
use Rattle.frame.specs.declared.entry.Entry.{Entry}
use Rattle.text.specs.Lines.{lines_of}
use Rattle.text.specs.Numerals.{numeral_of}

-- 97 is 'a', 122 'z'
abbrev pub is_letter : ℕ → Bool
is_letter b = nat_le 97 b && nat_le b 122

-- the call on a line, where there is one: a small letter, one space (32), and a number up to 255
abbrev pub call_on : List ℕ → Option Entry
call_on [] = None
call_on (letter ∷ []) = None
call_on (letter ∷ space ∷ digits) = cond (is_letter letter && space == 32) (option_map (unworked letter) (numeral_of 255 digits)) None

-- a malformed line is the call '?', which is 63, with the number 0
abbrev pub entry_of : List ℕ → Entry
entry_of line = unwrap_or (call_on line) (unworked 63 0)

-- a call for each line of a text
abbrev pub entries_of : List ℕ → List Entry
entries_of text = map entry_of (lines_of text)

-- what is answered when all of some calls are to go behind the first n rows of a book
abbrev pub noting_answer : List Entry → ℕ → List Entry → Result (Unit {0}) BookFault
noting_answer rows n calls = cond (nat_le (length calls) (length rows - n)) (Ok tt) (Err Full)
