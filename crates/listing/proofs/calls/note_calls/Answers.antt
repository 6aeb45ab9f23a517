use Rattle.std.proofs.Common.{map, sym, ap, ◌∙◌}
use Rattle.basics.specs.Books.{rows_with}
use Rattle.listing.specs.Calls.{entry_of, entries_of}
use Rattle.listing.proofs.Noting.{noted_more}
use Rattle.listing.proofs.calls.note_calls.Goals as goal

pub loop-line-preserved : goal.loop-line-preserved
loop-line-preserved c =
    let s = noted_more c.loop-line.book.rows.now c.loop-line.book.count (entry_of c.in-Some.line.now) _ (entries_of c.next.new.self.0.now) _ _
    (ap (map entry_of) c.in-Some.ensures.steps) (c.add.ensures.written ∙ ap (rows_with c.loop-line.book.rows.now c.loop-line.book.count) c.entry_of.ensures) c.add.ensures.filled (sym c.in_ok-add.was ∙ c.add.ensures.answer) in
    (s.0 ∙ c.loop-line.invariant.0, s.1 ∙ c.loop-line.invariant.1, s.2 ∙ c.loop-line.invariant.2, c.add.ensures.lender ∙ c.loop-line.invariant.3)
