use Rattle.std.proofs.Common.{◌≡◌, ◌-◌, replicate, drop, sym, ◌∙◌, arith, rules}
use Rattle.std.proofs.lemmas.List.{length-set, length-take-le, take-append-drop}
use Rattle.sheet.specs.Fields.{route_at}
use Rattle.sheet.specs.Layouts.{no_route}
use Rattle.sheet.proofs.Filled.{front_more, fill_stop}
use Rattle.sheet.proofs.Validity.{within_more}
use Rattle.sheet.proofs.reader.routes.Goals as goal

pub loop-k-init : goal.loop-k-init
loop-k-init c =
    let all : c.args.counts.routes - 0 ≡ c.args.counts.routes = omega arith in
    let whole = take-append-drop c.args.counts.routes (replicate 32 no_route) in (
      rw (all, whole),
      omega arith,
      length-take-le c.args.counts.routes (replicate 32 no_route) (omega arith),
      λ r h. absurd (omega arith),
    )

pub returns-in_err-place-clause-read : goal.returns-in_err-place-clause-read
returns-in_err-place-clause-read c =
    let e = sym (fill_stop (route_at c.args.counts) _ _ c.args.counts.routes _ _ _ _ (omega arith) c.in_err-place.ensures.read.value) ∙ c.loop-k.invariant.0 in
    search rules

pub loop-k-preserved : goal.loop-k-preserved
loop-k-preserved c = (
  front_more (route_at c.args.counts) _ _ c.args.counts.routes c.loop-k.k c.loop-k.front (drop c.args.counts.routes (replicate 32 no_route)) _ _ _ (omega arith) (omega arith) c.in_ok-place.ensures.read.value ∙ c.loop-k.invariant.0,
  omega arith,
  length-set _ _ _ ∙ c.loop-k.invariant.2,
  within_more c.loop-k.k c.args.counts c.loop-k.front c.in_ok-place.field-0 (omega arith) c.loop-k.invariant.3 c.in_ok-place.ensures.within,
)
