-- Entries as lines of a listing.
use Rattle.std.specs.Prelude.{ℕ, cond, List, [], ◌∷◌, ◌++◌, codes, decimal}
use Rattle.frame.specs.declared.entry.Entry.{Entry}
use Rattle.listing.specs.Calls.{is_letter}
use Rattle.std.specs.List.{flat_map}

-- a small letter as it is, anything else as '?'
abbrev pub shown_letter : ℕ → ℕ
shown_letter letter = cond (is_letter letter) letter 63

-- one space between each, and a newline behind
abbrev pub line_text : ℕ → ℕ → ℕ → ℕ → List ℕ
line_text letter number answer place =
    (letter ∷ []) ++ (codes " " ++ (decimal number ++ (codes " " ++ (decimal answer ++ (codes " " ++ (decimal place ++ codes "\n"))))))

abbrev pub entry_line : Entry → List ℕ
entry_line e = line_text (shown_letter e.letter) e.number e.answer e.place

abbrev pub entry_lines : List Entry → List ℕ
entry_lines es = flat_map entry_line es
