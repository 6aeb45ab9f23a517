use Rattle.std.proofs.Common.{arith}
use Rattle.sheet.specs.Encode.{encode}
use Rattle.sheet.proofs.Puts.{wrote_append}
use Rattle.sheet.proofs.Sheets.{wrote_filled, length-encode}
use Rattle.sheet.proofs.writer.put_sheet.Goals as goal

pub put_head-requires-clause-room : goal.put_head-requires-clause-room
put_head-requires-clause-room c = let e = length-encode c.args.layout.now in (omega arith, omega arith)

pub put_routes-requires-clause-room : goal.put_routes-requires-clause-room
put_routes-requires-clause-room c = let e = length-encode c.args.layout.now in (omega arith, omega arith)

pub put_filling-requires-clause-room : goal.put_filling-requires-clause-room
put_filling-requires-clause-room c = let e = length-encode c.args.layout.now in omega arith

pub put_filling-requires-clause-near : goal.put_filling-requires-clause-near
put_filling-requires-clause-near c = let e = length-encode c.args.layout.now in omega arith

pub returns : goal.returns
unfolding encode
returns c = wrote_filled (encode c.args.layout.now) c.requires.start (wrote_append c.put_head.ensures c.put_routes.ensures) c.put_filling.ensures
