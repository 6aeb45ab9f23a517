use Rattle.std.proofs.Common.{sym, ◌∙◌, arith}
use Rattle.std.proofs.lemmas.List.{length-set}
use Rattle.sheet.specs.Fields.{coded_at}
use Rattle.sheet.proofs.Filled.{fill_more, wider}
use Rattle.sheet.proofs.reader.row.Goals as goal

pub loop-k-preserved : goal.loop-k-preserved
loop-k-preserved g c =
    let m = wider g.T.Coded.WIDTH c.args.places.start c.loop-k.k (omega arith) in
    record {
      read = sym (fill_more (λ k. coded_at g.T.Coded.WIDTH g.T.Coded.value_of) _ _ c.args.places.end _ _ _ _ _ (omega arith) c.in_ok-row.ensures.value) ∙ c.loop-k.invariant.read;
      near = omega arith;
      size = length-set _ _ _ ∙ c.loop-k.invariant.size;
    }
