use Rattle.std.proofs.Common.{◌<◌, ◌≡◌, length, vec_items, ◌∙◌, arith}
use Rattle.std.specs.Slice.Iter.{chunks_size}
use Rattle.text.proofs.Hexes.{pair_more}
use Rattle.text.proofs.hex.unhex.Goals as goal

pub loop-pair-preserved : goal.loop-pair-preserved
loop-pair-preserved c =
    let two : chunks_size c.next.new.self ≡ 2 = c.in-Some.ensures.steps.0 ∙ c.loop-pair.invariant.2 in
    let some : 0 < chunks_size c.next.new.self = omega arith in
    let pair : length c.in-Some.pair.now ≡ 2 = omega arith in
    let more = pair_more (vec_items c.loop-pair.bytes) (vec_items c.push.new.self) _ _ _ _ c.in-Some.ensures.steps.1.0 pair c.in-Some-byte.ensures c.in_ok-push.ensures.items in
    (some, tt, two, more ∙ c.loop-pair.invariant.3)
