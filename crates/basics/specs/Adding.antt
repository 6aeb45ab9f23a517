-- What a call that adds entries to a book says of the book. `Book::add` says it in the words of Books: the file of `Book`
-- cannot name this one, which names `Book`.
use Rattle.std.specs.Prelude.{◌≡◌, List}
use Rattle.basics.specs.Books.{rows_after, count_after}
use Rattle.basics.specs.declared.book.Book.{Book}

-- b is the book a with the entries ys behind its own, as many of them as fit, and its rows are the same lender's
pub record Added {X : Type 0} (a b : Book X) (ys : List X) : Type 0 where
  pub written : b.rows.now ≡ rows_after a.rows.now a.count ys
  pub filled : b.count ≡ count_after a.rows.now a.count ys
  pub lender : b.rows.ghost_name ≡ a.rows.ghost_name
