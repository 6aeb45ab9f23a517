use Rattle.std.proofs.Common.{[], length, refl, ap, ◌∙◌}
use Rattle.basics.proofs.Adds.{added_is, added_none}
use Rattle.sheet.proofs.Breaches.{agreeing, faults_done, faults_fault}
use Rattle.sheet.proofs.survey.note_faults.Goals as goal

pub returns-in-Ok : goal.returns-in-Ok
returns-in-Ok c =
    let f = faults_done _ _ _ c.new-bits.ensures.sheet c.new-bits.ensures.start _ _ _ c.in-Ok.ensures.read.value in
    record {
      total = c.note_rules.ensures.total ∙ ap length f;
      added = added_is _ _ _ _ _ refl f (c.note_rules.ensures.onward c.args.book.now [] (added_none c.args.book.now));
      agrees = agreeing c.args.sheet.now;
    }

pub returns-in-Err : goal.returns-in-Err
returns-in-Err c =
    let f = faults_fault _ _ _ c.new-bits.ensures.sheet c.new-bits.ensures.start _ c.in-Err.ensures.read.value in
    record { total = ap length f; added = added_is _ _ _ _ _ refl f c.note.ensures; agrees = agreeing c.args.sheet.now }
