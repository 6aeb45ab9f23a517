use Rattle.std.proofs.Common.{refl}
use Rattle.frame.proofs.Lawful.{law}
use Rattle.frame.proofs.GoesOn.{goes_on_call}
use Rattle.frame.proofs.Homeward.{homing}
use Rattle.frame.proofs.duty.law_holds.Goals as goal

pub returns : goal.returns
returns c = record { law = law; calls = goes_on_call; homing = homing; nought = refl }
