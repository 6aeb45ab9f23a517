use Rattle.std.proofs.Common.{◌+◌, drop}
use Rattle.sheet.specs.Encode.{bits_of, codes_bits}
use Rattle.sheet.proofs.Puts.{codes_more, going_more, length-bits, room_more}
use Rattle.sheet.proofs.bit_writer.BitWriter.put_row.Goals as goal

pub put_coded-requires : goal.put_coded-requires
put_coded-requires g c =
    let w = g.T.Coded.WIDTH in
    let x = c.value-item.result in
    let e = codes_more w g.T.Coded.code_of c.args.row.now c.loop-value.value-index x c.loop-value-test.true c.value-item.is in
    let h = room_more (bits_of w (g.T.Coded.code_of x)) (codes_bits w g.T.Coded.code_of (drop (c.loop-value.value-index + 1) c.args.row.now)) (rw e at c.loop-value.invariant) c.requires in
    rw length-bits at h

pub loop-value-preserved : goal.loop-value-preserved
loop-value-preserved g c =
    let e = codes_more g.T.Coded.WIDTH g.T.Coded.code_of c.args.row.now c.loop-value.value-index c.value-item.result c.loop-value-test.true c.value-item.is in
    going_more (rw e at c.loop-value.invariant) c.put_coded.ensures
