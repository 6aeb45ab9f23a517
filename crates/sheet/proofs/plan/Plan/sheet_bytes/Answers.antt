use Rattle.std.proofs.Common.{ℕ, ◌+◌, ◌/◌, sym, ap, ◌∙◌}
use Rattle.sheet.proofs.Sheets.{length_is_size, length_sheet}
use Rattle.sheet.proofs.plan.Plan.sheet_bytes.Goals as goal

pub returns : goal.returns
returns c =
    let e = c.size.ensures.value in
    record {
      formula = rw e;
      whole = rw e (ap (λ (n : ℕ). (n + 7) / 8) (sym (length_is_size c.args.self.now.layout)) ∙ sym (length_sheet c.args.self.now.layout));
    }
