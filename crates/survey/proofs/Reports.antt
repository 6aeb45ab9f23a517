-- The report, part by part.
use Rattle.std.proofs.Common.{◌≡◌, ℕ, ◌+◌, ◌-◌, List, length, take, drop, ap, ◌∙◌, arith}
use Rattle.std.proofs.lemmas.List.{take_at}
use Rattle.basics.specs.Books.{count_after, rows_after}
use Rattle.sheet.specs.declared.fault.SheetFault.{SheetFault}

-- what a book that was empty holds after a survey
pub first_entries : (rows fs : List SheetFault) → take (count_after rows 0 fs) (rows_after rows 0 fs) ≡ take (length rows) fs
first_entries rows fs =
    let z : length rows - 0 ≡ length rows = omega arith in
    let t = take_at (take (length rows - 0) fs) (drop (0 + length fs) rows) (0 + length (take (length rows - 0) fs)) (omega arith) in
    t ∙ ap (λ (n : ℕ). take n fs) z

-- so these are the first 96 faults, where there were 96 rows
pub noted : (fs rows now entries : List SheetFault) (n n' : ℕ) → length rows ≡ 96 → n ≡ 0 → now ≡ rows_after rows n fs → n' ≡ count_after rows n fs → entries ≡ take n' now
    → entries ≡ take 96 fs
noted fs rows now entries n n' size z a b e =
    let f = first_entries rows fs in
    e ∙ ((cc (a, b, z)) ∙ (f ∙ ap (λ (m : ℕ). take m fs) size))
