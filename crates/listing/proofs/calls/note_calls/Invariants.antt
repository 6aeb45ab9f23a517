use Rattle.std.proofs.Common.{◌≡◌}
use Rattle.basics.specs.Books.{count_after, rows_after}
use Rattle.listing.specs.Calls.{entries_of, noting_answer}
use Rattle.listing.proofs.calls.note_calls.Given as goal

-- what is noted by now, and then the calls on the lines that are left, come to all of them
abbrev pub invariant-loop-line : goal.invariant-loop-line
invariant-loop-line l =
    (noting_answer l.book.rows.now l.book.count (entries_of l.line-iterator.0.now) ≡ noting_answer l.initial.book.rows.now l.initial.book.count (entries_of l.text))
    × (rows_after l.book.rows.now l.book.count (entries_of l.line-iterator.0.now) ≡ rows_after l.initial.book.rows.now l.initial.book.count (entries_of l.text))
    × (count_after l.book.rows.now l.book.count (entries_of l.line-iterator.0.now) ≡ count_after l.initial.book.rows.now l.initial.book.count (entries_of l.text))
    × (l.book.rows.ghost_name ≡ l.initial.book.rows.ghost_name)
