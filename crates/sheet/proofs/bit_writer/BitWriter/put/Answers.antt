use Rattle.std.proofs.Common.{arith}
use Rattle.sheet.proofs.Puts.{bits_more, going_more, length-bits}
use Rattle.sheet.proofs.bit_writer.BitWriter.put.Goals as goal

pub push-requires-clause-room : goal.push-requires-clause-room
push-requires-clause-room c =
    let a = length-bits c.loop-k.k c.args.value in
    let b = length-bits c.args.width c.args.value in
    (omega arith, omega arith)

pub loop-k-preserved : goal.loop-k-preserved
loop-k-preserved c = let e = bits_more c.loop-k.k c.args.value (omega arith) in going_more (rw e at c.loop-k.invariant) c.push.ensures
