use Rattle.std.proofs.Common.{drop}
use Rattle.sheet.specs.Encode.{codes_bits}
use Rattle.sheet.proofs.Puts.{Going}
use Rattle.sheet.proofs.bit_writer.BitWriter.put_row.Given as goal

abbrev pub invariant-loop-value : goal.invariant-loop-value
invariant-loop-value g l = Going l.initial.self l.self (codes_bits g.T.Coded.WIDTH g.T.Coded.code_of (drop l.value-index l.row)) (codes_bits g.T.Coded.WIDTH g.T.Coded.code_of l.row)
