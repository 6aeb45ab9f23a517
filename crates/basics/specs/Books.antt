-- A book: rows that are filled from the front. What each call answers and leaves, of the rows and of how many are filled.
use Rattle.std.specs.Prelude.{ℕ, ◌+◌, ◌-◌, Bool, cond, List, ◌++◌, length, take, drop, Some, None, Ok, Err, Option, Result, nat_lt, slice_set}
use Rattle.basics.specs.declared.book.BookFault.{BookFault}
use Rattle.basics.specs.declared.book.BookFault.TheVariants.{Full, NoSuchPlace}

-- the number of each fault of a book
abbrev pub book_number_of : BookFault → ℕ
book_number_of Full = 37
book_number_of NoSuchPlace = 11

-- a row is left behind the first n
abbrev pub has_room : {X : Type 0} → List X → ℕ → Bool
has_room xs n = nat_lt n (length xs)

-- one entry more: what is answered, the rows and how many are filled; a full book is left as it is
abbrev pub add_answer : {X : Type 0} → List X → ℕ → Result (Unit {0}) BookFault
add_answer xs n = cond (has_room xs n) (Ok tt) (Err Full)

abbrev pub rows_with : {X : Type 0} → List X → ℕ → X → List X
rows_with xs n x = cond (has_room xs n) (slice_set xs n x) xs

abbrev pub count_with : {X : Type 0} → List X → ℕ → ℕ
count_with xs n = cond (has_room xs n) (n + 1) n

-- what a place gives, by what is found there
abbrev pub place_answer : {X : Type 0} → Option X → Result X BookFault
place_answer (Some x) = Ok x
place_answer None = Err NoSuchPlace

-- as many of some entries as fit behind the first n rows
abbrev pub fitting : {X : Type 0} → List X → ℕ → List X → List X
fitting xs n ys = take (length xs - n) ys

-- some entries more: behind the first n rows as many of them as fit, and then the rows as they were
abbrev pub rows_after : {X : Type 0} → List X → ℕ → List X → List X
rows_after xs n ys = take n xs ++ (fitting xs n ys ++ drop (n + length ys) xs)

abbrev pub count_after : {X : Type 0} → List X → ℕ → List X → ℕ
count_after xs n ys = n + length (fitting xs n ys)
