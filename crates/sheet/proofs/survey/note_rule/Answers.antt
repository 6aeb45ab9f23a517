use Rattle.std.proofs.Common.{◌≡◌, ◌+◌, [], ◌∷◌, ◌++◌, length, sym, refl, ap, ◌∙◌, arith}
use Rattle.std.proofs.lemmas.List.{length_push}
use Rattle.sheet.specs.Rules.{extent_of}
use Rattle.sheet.specs.Survey.{breaches_to}
use Rattle.basics.proofs.Adds.{added_is, added_then}
use Rattle.sheet.proofs.Breaches.{breach_more, breach_none}
use Rattle.sheet.proofs.Breaking.{breaks_there}
use Rattle.sheet.proofs.survey.note_rule.Goals as goal
use Rattle.sheet.proofs.survey.note_rule.Goals.{then-is_broken, else-is_broken}

pub loop-place-preserved : goal.loop-place-preserved
loop-place-preserved c =
    let v = c.loop-place.invariant in
    let l = c.args.layout.now in
    let r = c.args.rule in
    let k = c.loop-place.place in
    let ys = breaches_to l r k in
    let there = breaks_there l r k (omega (arith, c.extent-place-end.ensures)) in
    elim c.if-is_broken.branch [
      | then-is_broken w ↦
          let x = w.at.result in
          let e : ys ++ x ∷ [] ≡ breaches_to l r (k + 1) =
          ap (λ x. ys ++ x ∷ []) (w.at.ensures ∙ ap (λ f. record { flaw = f; place = k }) w.flaw.ensures) ∙ sym (breach_more l r k (sym there ∙ sym w.if-is_broken.ensures)) in
          record {
            total = omega (arith, w.total-is, v.total, ap length e, length_push ys x);
            small = omega (arith, w.total-is, v.small);
            added = added_is _ _ _ _ _ w.book-is e (added_then _ _ _ ys (x ∷ []) v.added w.note.ensures);
          }
      | else-is_broken w ↦
          let e : ys ≡ breaches_to l r (k + 1) = sym (breach_none l r k (sym there ∙ sym w.if-is_broken.ensures)) in
          record {
            total = w.total-is ∙ (v.total ∙ ap length e);
            small = omega (arith, w.total-is, v.small);
            added = added_is _ _ _ _ _ w.book-is e v.added;
          }
    ]

pub returns-clause-onward : goal.returns-clause-onward
returns-clause-onward c = λ first ys h.
    let end : c.loop-place.place ≡ extent_of c.args.layout.now c.args.rule = omega (arith, c.extent-place-end.ensures) in
    added_then first c.args.book.now c.loop-place.book ys _ h (added_is _ _ _ _ _ refl (ap (breaches_to c.args.layout.now c.args.rule) end) c.loop-place.invariant.added)
