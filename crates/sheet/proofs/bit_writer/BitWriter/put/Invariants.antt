use Rattle.sheet.specs.Encode.{bits_of}
use Rattle.sheet.proofs.Puts.{Going}
use Rattle.sheet.proofs.bit_writer.BitWriter.put.Given as goal

abbrev pub invariant-loop-k : goal.invariant-loop-k
invariant-loop-k l = Going l.initial.self l.self (bits_of l.k l.value) (bits_of l.width l.value)
