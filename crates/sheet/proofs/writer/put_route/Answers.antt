use Rattle.std.proofs.Common.{◌+◌, ◌-◌, false, None, ap, length, arith}
use Rattle.std.proofs.lemmas.List.{length-append}
use Rattle.sheet.specs.Codes.{demand_code, flag_code}
use Rattle.sheet.specs.Encode.{each, demand_bits, named_bits}
use Rattle.sheet.proofs.Puts.{codes_each, wrote_append}
use Rattle.sheet.proofs.writer.put_route.Goals as goal

pub put_row-requires : goal.put_row-requires
put_row-requires c =
    let d = c.args.route.now.demands in
    let l = ap length (codes_each 2 demand_code None d c.args.counts.points 0 (omega arith)) in
    let s = length-append (each (demand_bits d) c.args.counts.points 0) (each (named_bits c.args.route.now.named) (c.args.counts.routes - (c.args.r + 1)) (c.args.r + 1)) in
    (omega arith, omega arith)

pub put_row-requires-2 : goal.put_row-requires-2
put_row-requires-2 c =
    let d = c.args.route.now.demands in
    let n = c.args.route.now.named in
    let l = ap length (codes_each 2 demand_code None d c.args.counts.points 0 (omega arith)) in
    let m = ap length (codes_each 1 flag_code false n (c.args.counts.routes - (c.args.r + 1)) (c.args.r + 1) (omega arith)) in
    let s = length-append (each (demand_bits d) c.args.counts.points 0) (each (named_bits n) (c.args.counts.routes - (c.args.r + 1)) (c.args.r + 1)) in
    (omega arith, omega arith)

pub returns : goal.returns
returns c =
    let d = codes_each 2 demand_code None c.args.route.now.demands c.args.counts.points 0 (omega arith) in
    let n = codes_each 1 flag_code false c.args.route.now.named (c.args.counts.routes - (c.args.r + 1)) (c.args.r + 1) (omega arith) in
    wrote_append c.put.ensures
    (wrote_append c.put_coded.ensures
    (wrote_append c.put-2.ensures
    (wrote_append c.put_coded-2.ensures
    (wrote_append (rw (← d) at c.put_row.ensures) (rw (← n) at c.put_row-2.ensures)))))
