use Rattle.std.proofs.Common.{◌≡◌, ◌+◌, ◌-◌, ◌*◌, ◌≤◌, length}
use Rattle.sheet.specs.Fields.{coded_at, fill, row_at}
use Rattle.sheet.proofs.reader.row.Given as goal

abbrev pub invariant-loop-k : goal.invariant-loop-k
invariant-loop-k g l =
    record {
      read : fill (λ k. coded_at g.T.Coded.WIDTH g.T.Coded.value_of) l.bits.bytes.now l.bits.at (l.fn.places.end - l.k) l.k l.row
          ≡ row_at g.T.Coded.WIDTH g.T.Coded.value_of l.fn.blank l.fn.places.start l.fn.places.end l.initial.bits.bytes.now l.initial.bits.at;
      near : l.bits.at ≤ l.initial.bits.at + g.T.Coded.WIDTH * (l.k - l.fn.places.start);
      size : length l.row ≡ 32;
    }
