use Rattle.std.proofs.Common.{◌+◌, drop, sym, ◌∙◌}
use Rattle.text.proofs.Digits.{digit_more, digits_end, over}
use Rattle.text.proofs.numbers.spelled.Goals as goal

pub returns-then-number-most : goal.returns-then-number-most
returns-then-number-most c =
    let more = digit_more c.args.most c.loop-byte.number c.args.text.now c.loop-byte.byte-index c.loop-byte-test.true (sym c.is_ascii_digit.ensures.value ∙ c.if-not-is_ascii_digit.false) in
    sym (more ∙ over _ _ (drop (c.loop-byte.byte-index + 1) c.args.text.now) c.if-number-most.true) ∙ c.loop-byte.invariant.1

pub returns : goal.returns
returns c = digits_end c.args.most c.loop-byte.number c.args.text.now c.loop-byte.byte-index c.loop-byte-test.false c.loop-byte.invariant.0 ∙ c.loop-byte.invariant.1
