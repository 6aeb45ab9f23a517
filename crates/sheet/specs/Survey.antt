-- All faults of a sheet.
use Rattle.std.specs.Prelude.{◌≡◌, ℕ, List, [], ◌∷◌, ◌++◌, map}
use Rattle.basics.specs.Scan.{passing}
use Rattle.sheet.specs.Faults.{number_of}
use Rattle.sheet.specs.Bits.{Read, done, fault}
use Rattle.sheet.specs.Fields.{layout_at}
use Rattle.sheet.specs.Rules.{broken, extent_of, flaw_of}
use Rattle.sheet.specs.Decode.{Outcome, accepted, refused}
use Rattle.sheet.specs.declared.fault.SheetFault.{SheetFault}
use Rattle.sheet.specs.declared.rules.PlanRule.{PlanRule}
use Rattle.sheet.specs.declared.rules.PlanRule.TheVariants.{OneRouteASide, LeversServe, SignalsServe}
use Rattle.sheet.specs.declared.layout.Layout.{Layout}

-- the breaches of a rule by the first n of what it speaks of
abbrev pub breaches_to : Layout → PlanRule → ℕ → List SheetFault
breaches_to l k n = map (λ p. record { flaw = flaw_of k; place = p }) (passing (broken l k) n)

-- all breaches of a rule
abbrev pub breaches : Layout → PlanRule → List SheetFault
breaches l k = breaches_to l k (extent_of l k)

-- the breaches of the rules of the whole plan, in their order
abbrev pub all_breaches : Layout → List SheetFault
all_breaches l = breaches l OneRouteASide ++ breaches l LeversServe ++ breaches l SignalsServe

-- the one fault of reading, or else every breach
abbrev pub surveyed : Read Layout → List SheetFault
surveyed (done l s i) = all_breaches l
surveyed (fault w p) = record { flaw = w; place = p } ∷ []

abbrev pub faults_of : List ℕ → List SheetFault
faults_of s = surveyed (layout_at s 0)

-- a sheet without faults is accepted, and any other is refused with the first of them
abbrev pub Agreeing : List SheetFault → Outcome → Type 0
Agreeing [] (accepted l) = Unit {0}
Agreeing [] (refused n p) = ⊥
Agreeing (x ∷ xs) (accepted l) = ⊥
Agreeing (x ∷ xs) (refused n p) = (n ≡ number_of x.flaw) × (p ≡ x.place)
