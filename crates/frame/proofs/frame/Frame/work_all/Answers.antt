use Rattle.std.proofs.Common.{arith}
use Rattle.frame.specs.Views.{view}
use Rattle.frame.proofs.Runs.{left_none}
use Rattle.frame.proofs.GoesOn.{goes_on_noted, goes_on_each-noted}
use Rattle.frame.proofs.frame.Frame.work_all.Goals as goal

pub returns : goal.returns
returns g c =
    let s = view g.B.Block.meaning c.args.self.now in
    let es = c.args.entries.now in
    let h = left_none es s c.loop-entry.entries c.loop-entry.entry-index _ (omega arith) c.loop-entry.invariant in
    record { notes = h.0; leaves = h.1; goes = goes_on_noted es s _ _ h.0 h.1; each = goes_on_each-noted es s _ h.0 }
