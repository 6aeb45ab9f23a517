use Rattle.frame.specs.Views.{view}
use Rattle.frame.proofs.GoesOn.{goes_on_worked}
use Rattle.frame.proofs.frame.Frame.go_on.Goals as goal

pub returns : goal.returns
returns g c =
    let w = c.dispatch.ensures in
    record { works = w; law = goes_on_worked c.args.call c.args.n (view g.B.Block.meaning c.args.self.now) _ _ w.answers w.leaves }
