use Rattle.std.proofs.Common.{◌+◌, ◌-◌, ◌*◌, ◌/◌}
use Rattle.sheet.proofs.Puts.{bits_zero}
use Rattle.sheet.proofs.writer.put_filling.Goals as goal

pub returns : goal.returns
returns c = let z = bits_zero ((c.args.w.now.at + 7) / 8 * 8 - c.args.w.now.at) in rw z at c.put.ensures
