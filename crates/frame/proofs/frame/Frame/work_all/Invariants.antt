use Rattle.frame.specs.Views.{view}
use Rattle.frame.proofs.Runs.{Left}
use Rattle.frame.proofs.frame.Frame.work_all.Given as goal

abbrev pub invariant-loop-entry : goal.invariant-loop-entry
invariant-loop-entry g l = Left l.initial.entries (view g.B.Block.meaning l.initial.self) l.entries l.entry-index (view g.B.Block.meaning l.self)
