use Rattle.basics.proofs.Adds.{added_one}
use Rattle.sheet.proofs.survey.note.Goals as goal

pub returns : goal.returns
returns c = added_one _ _ _ c.add.ensures.written c.add.ensures.filled c.add.ensures.lender
