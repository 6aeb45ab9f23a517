use Rattle.std.proofs.Common.{sym, ap, ◌∙◌}
use Rattle.frame.specs.Runs.{run_noted, run_after}
use Rattle.frame.specs.Views.{view}
use Rattle.frame.proofs.Runs.{load_stands}
use Rattle.frame.proofs.GoesOn.{stands_noted, stands_each-noted}
use Rattle.frame.proofs.frame.Frame.load_and_run.Goals as goal

pub returns : goal.returns
returns g c =
    let s = view g.B.Block.meaning c.args.self.now in
    let s' = view g.B.Block.meaning c.load.new.self in
    let es = c.args.entries.now in
    let formed = g.met.B.Block.formed c.args.self.now.block in
    let a = sym c.in_ok-load.was ∙ c.load.ensures.answers in
    let e = load_stands c.args.plan.layout s s' a c.load.ensures.leaves in
    let noted = c.run.ensures.notes ∙ ap (run_noted es) e in
    let after = c.run.ensures.leaves ∙ ap (run_after es) e in
    record {
      answers = a;
      notes = noted;
      leaves = after;
      stands = λ _. stands_noted c.args.plan s formed (sym a) es _ _ noted after;
      each = λ _. stands_each-noted c.args.plan s formed (sym a) es _ noted;
    }
