use Rattle.std.proofs.Common.{rules}
use lib.Seq.{take-set-lt}
use Rattle.std.proofs.lemmas.List.{map-set}
use Rattle.block.proofs.consents.Consents.put.Goals as goal

pub returns : goal.returns
returns g c = search (rules, map-set, take-set-lt)
