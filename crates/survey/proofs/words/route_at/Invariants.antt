use Rattle.std.proofs.Common.{◌≡◌, ◌+◌, ◌-◌, ◌*◌, ◌≤◌}
use Rattle.survey.specs.Words.{holding}
use Rattle.survey.proofs.words.route_at.Given as goal

abbrev pub invariant-loop-r : goal.invariant-loop-r
invariant-loop-r l =
    (holding l.points l.routes l.bit (l.routes - l.r) l.r l.end ≡ holding l.points l.routes l.bit l.routes 0 27)
    × (l.end ≤ 27 + 200 * l.r)
