use Rattle.std.proofs.Common.{sym, ◌∙◌, inr, arith, rules}
use Rattle.sheet.proofs.Reading.{decode_done, decode_fault}
use Rattle.sheet.proofs.Round.{round_trip}
use Rattle.sheet.proofs.Validity.{passed, apart, levers_served_lem, signals_served_lem}
use Rattle.sheet.proofs.reader.valid_layout.Goals as goal

pub returns-in_err-layout-clause-outcome : goal.returns-in_err-layout-clause-outcome
returns-in_err-layout-clause-outcome c =
    let e = decode_fault _ _ _ c.new-bits.ensures.sheet c.new-bits.ensures.start _ _ c.in_err-layout.ensures.read.value in search rules

pub returns-in_err-judge-clause-outcome : goal.returns-in_err-judge-clause-outcome
returns-in_err-judge-clause-outcome c =
    let e = decode_done _ _ _ c.new-bits.ensures.sheet c.new-bits.ensures.start c.in_ok-layout.layout _ _ c.in_ok-layout.ensures.read.value in search rules

pub returns : goal.returns
returns c =
    let w = c.in_ok-layout.ensures.within in
    let p = passed c.in_ok-layout.layout (sym c.in_ok-judge.ensures) in
    let e = c.in_ok-judge.ensures ∙ decode_done _ _ _ c.new-bits.ensures.sheet c.new-bits.ensures.start c.in_ok-layout.layout _ _ c.in_ok-layout.ensures.read.value in
    record {
      outcome = e;
      valid = record {
        few = w.0;
        bare = λ z. absurd (omega (arith, w.1));
        within = w.2;
        apart = apart _ p;
        levers = levers_served_lem _ p;
        signals = signals_served_lem _ p;
        sound = ∣ inr (c.args.sheet.now, (λ i. omega (arith, c.type_inv.sheet i)), sym e) ∣₁;
      };
      again = round_trip c.args.sheet.now c.in_ok-layout.layout (λ i. omega (arith, c.type_inv.sheet i)) (sym e);
    }
