use Rattle.std.proofs.Common.{sym, ◌∙◌}
use Rattle.frame.specs.Views.{view}
use Rattle.frame.proofs.GoesOn.{stands_loaded}
use Rattle.frame.proofs.frame.Frame.begin.Goals as goal

pub returns : goal.returns
returns g c =
    let p = c.put_in.ensures in
    record {
      answers = p.answer;
      leaves = p.after;
      stands = λ a. stands_loaded c.args.plan (view g.B.Block.meaning c.args.self.now) (g.met.B.Block.formed c.args.self.now.block) (sym p.answer ∙ a) _ p.after;
    }
