-- What a sheet says: a plan, or the number and place of its one fault.
use Rattle.std.specs.Prelude.{ℕ, List, Some, None, Ok, Err, Option, Result}
use Rattle.sheet.specs.Faults.{number_of}
use Rattle.sheet.specs.Bits.{Read, done, fault}
use Rattle.sheet.specs.Fields.{layout_at}
use Rattle.sheet.specs.Rules.{flaw_of, lowest_broken}
use Rattle.sheet.specs.declared.fault.SheetFault.{SheetFault}
use Rattle.sheet.specs.declared.rules.PlanRule.{PlanRule}
use Rattle.sheet.specs.declared.rules.PlanRule.TheVariants.{OneRouteASide, LeversServe, SignalsServe}
use Rattle.sheet.specs.declared.layout.Layout.{Layout}

pub data Outcome : Type 0 where
  accepted : Layout → Outcome
  refused : ℕ → ℕ → Outcome
  deriving IsSet as Outcome-set

-- a refusal at what breaks a rule, where there is such, else what comes after
abbrev pub refuse : PlanRule → Option ℕ → Outcome → Outcome
refuse k (Some place) after = refused (number_of (flaw_of k)) place
refuse k None after = after

-- the rules of the whole plan, in their order
abbrev pub ruled : Layout → Outcome
ruled l =
    refuse OneRouteASide (lowest_broken l OneRouteASide)
    (refuse LeversServe (lowest_broken l LeversServe)
    (refuse SignalsServe (lowest_broken l SignalsServe)
    (accepted l)))

abbrev pub settled : Read Layout → Outcome
settled (done l s i) = ruled l
settled (fault w p) = refused (number_of w) p

-- what a sheet of bytes says
abbrev pub decode : List ℕ → Outcome
decode s = settled (layout_at s 0)

-- what a test of the rules answers of a layout
abbrev pub judged : Layout → Result (Unit {0}) SheetFault → Outcome
judged l (Ok u) = accepted l
judged l (Err e) = refused (number_of e.flaw) e.place

-- a layout, or each case of a fault by its number and place
abbrev pub drawn : Result Layout SheetFault → Outcome
drawn (Ok l) = accepted l
drawn (Err e) = refused (number_of e.flaw) e.place
