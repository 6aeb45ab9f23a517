-- What a program is given to read.
use Rattle.std.specs.Prelude.{ℕ, cond, List, length, None, Option, nat_le}
use Rattle.text.specs.Hex.{bytes_of}
use Rattle.text.specs.Lines.{first_line}

-- the most bytes that an input may have
abbrev pub limit : ℕ
limit = 65536

-- the sheet in hex on the first line; none where that is no hex, or where the input is too long
abbrev pub sheet_in : List ℕ → Option (List ℕ)
sheet_in input = cond (nat_le (length input) limit) (bytes_of (first_line input)) None
