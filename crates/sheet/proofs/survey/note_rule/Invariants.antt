use Rattle.std.proofs.Common.{◌≡◌, ◌≤◌, length}
use Rattle.basics.specs.Adding.{Added}
use Rattle.sheet.specs.Survey.{breaches_to}
use Rattle.sheet.proofs.survey.note_rule.Given as goal

abbrev pub invariant-loop-place : goal.invariant-loop-place
invariant-loop-place l =
    record {
      total : l.total ≡ length (breaches_to l.layout l.rule l.place);
      small : l.total ≤ l.place;
      added : Added l.initial.book l.book (breaches_to l.layout l.rule l.place);
    }
