use Rattle.std.proofs.Common.{arith}
use Rattle.sheet.proofs.Values.{value_fits}
use Rattle.sheet.proofs.bits.BitReader.field.Goals as goal

pub overflow_mul-value : goal.overflow_mul-value
overflow_mul-value c = omega (arith, value_fits c.args.self.now.bytes.now c.args.self.now.at c.loop-k.k (omega arith))

pub overflow_add-value : goal.overflow_add-value
overflow_add-value c = omega (arith, value_fits c.args.self.now.bytes.now c.args.self.now.at c.loop-k.k (omega arith))
