-- Lines of a text: a line ends with a newline or with the text.
use Rattle.std.specs.Prelude.{ℕ, Bool, cond, List, [], ◌∷◌, ◌==◌}
use Rattle.std.specs.List.{after_first, before_first, onto_first}
use Rattle.text.specs.declared.lines.Lines.{Lines}

-- 10 is a newline
abbrev pub is_newline : ℕ → Bool
is_newline b = b == 10

abbrev pub first_line : List ℕ → List ℕ
first_line bs = before_first is_newline bs

-- what follows the first line and its newline
abbrev pub after_first_line : List ℕ → List ℕ
after_first_line bs = after_first is_newline bs

-- all lines; after a last newline there is none
abbrev pub lines_of : List ℕ → List (List ℕ)
lines_of [] = []
lines_of (b ∷ bs) = cond (is_newline b) ([] ∷ lines_of bs) (onto_first b (lines_of bs))

-- what an iterator over lines has left
abbrev pub lines_left : Lines → List (List ℕ)
lines_left s = lines_of s.0.now
