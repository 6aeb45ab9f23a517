use Rattle.std.proofs.Common.{◌≡◌}
use Rattle.sheet.specs.Bits.{value_of}
use Rattle.sheet.proofs.bits.BitReader.field.Given as goal

abbrev pub invariant-loop-k : goal.invariant-loop-k
invariant-loop-k l = l.value ≡ value_of l.self.bytes.now l.start l.k
