use lib.LanesLaws.{map-replicate}
use Rattle.std.proofs.Common.{arith}
use Rattle.std.proofs.lemmas.List.{take-replicate}
use Rattle.block.proofs.consents.Consents.alike.Goals as goal

pub returns : goal.returns
returns g c = simp (take-replicate c.args.lines 32 c.args.token (omega arith), map-replicate)
