-- Lines that programs answer with.
use Rattle.std.specs.Prelude.{ℕ, List, ◌++◌, codes, decimal}

-- the line of a sheet that is refused, with its fault's number and place
abbrev pub refused_line : ℕ → ℕ → List ℕ
refused_line n p = codes "sheet " ++ (decimal n ++ (codes " " ++ (decimal p ++ codes "\n")))
