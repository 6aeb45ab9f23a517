use Rattle.std.proofs.Common.{refl, arith, rules}
use Rattle.sheet.proofs.Round.{written_so, reads_back}
use Rattle.sheet.proofs.Sheets.{length_is_size, length_sheet, size_small, sheet_written}
use Rattle.sheet.proofs.plan.Plan.write_sheet.Goals as goal

pub put_sheet-requires : goal.put_sheet-requires
put_sheet-requires c =
    let l = c.args.self.now.layout in
    let e = length_is_size l in
    let s = size_small l.counts c.args.self.now.few in
    record { start = refl; few = c.args.self.now.few; room = omega (arith, length_sheet l); near = omega arith }

pub returns : goal.returns
returns c =
    let l = c.args.self.now.layout in
    let w = sheet_written l refl (omega (arith, length_sheet l)) c.put_sheet.ensures in
    let same = c.put_sheet.ensures.lender in
    record {
      written = written_so l c.sheet_bytes-bytes.result c.args.out.now _ c.sheet_bytes-bytes.ensures.whole c.if-out-bytes.false c.if-self-eq0.false (search (rules, w, same));
      back = reads_back l c.sheet_bytes-bytes.result c.args.out.now _ c.sheet_bytes-bytes.ensures.whole c.if-out-bytes.false c.if-self-eq0.false (search (rules, w, same)) c.args.self.now.sound;
    }
