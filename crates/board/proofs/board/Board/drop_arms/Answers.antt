use Rattle.std.proofs.Common.{sym, ◌∙◌}
use Rattle.board.proofs.Arms.{fell_none, fell_skip, fell_more}
use Rattle.board.proofs.board.Board.drop_arms.Goals as goal
use Rattle.board.proofs.board.Board.drop_arms.Goals.{then-claims, else-claims}

pub loop-r-init : goal.loop-r-init
loop-r-init c = fell_none c.args.plan.now.layout c.args.self.now c.args.p

pub loop-r-preserved : goal.loop-r-preserved
loop-r-preserved c =
    elim c.if-claims.branch [
      | then-claims w ↦ w.self-is ∙ w.drop_arm.ensures ∙ fell_more c.args.plan.now.layout c.args.self.now c.loop-r.self c.args.p c.loop-r.r c.loop-r.invariant (sym w.if-claims.ensures)
      | else-claims w ↦ w.self-is ∙ fell_skip c.args.plan.now.layout c.args.self.now c.loop-r.self c.args.p c.loop-r.r c.loop-r.invariant (sym w.if-claims.ensures)
    ]
