-- What the parts of a reading say of the sheet.
use Rattle.std.proofs.Common.{◌≡◌, ℕ, List, ap, ◌∙◌}
use Rattle.sheet.specs.Faults.{number_of}
use Rattle.sheet.specs.Bits.{done, fault}
use Rattle.sheet.specs.declared.fault.Flaw.{Flaw}
use Rattle.sheet.specs.Fields.{layout_at}
use Rattle.sheet.specs.Decode.{refused, ruled, settled, decode}
use Rattle.sheet.specs.declared.layout.Layout.{Layout}

module _ (s t : List ℕ) (i : ℕ) (e : t ≡ s) (z : i ≡ 0) where
  pub decode_done : (l : Layout) (u : List ℕ) (j : ℕ) → done l u j ≡ layout_at t i → ruled l ≡ decode s
  decode_done l u j h = ap settled h ∙ (cc)

  pub decode_fault : (w : Flaw) (p : ℕ) → fault w p ≡ layout_at t i → refused (number_of w) p ≡ decode s
  decode_fault w p h = ap settled h ∙ (cc)
