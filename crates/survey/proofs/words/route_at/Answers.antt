use Rattle.std.proofs.Common.{sym, ◌∙◌, arith}
use Rattle.survey.proofs.Places.{holding_more}
use Rattle.survey.proofs.words.route_at.Goals as goal

pub loop-r-preserved : goal.loop-r-preserved
loop-r-preserved c =
    (sym (holding_more c.args.points c.args.routes c.args.bit c.loop-r.r c.loop-r.end (omega arith) (omega arith)) ∙ c.loop-r.invariant.0, omega arith)
