-- Whether a rule is broken, from its tests.
use Rattle.std.proofs.Common.{◌≡◌, ℕ, zero, suc, ◌<◌, Bool, refl, arith}
use Rattle.std.proofs.lemmas.Bool.{lt-ltb}
use Rattle.basics.specs.Scan.{lowest}
use Rattle.sheet.specs.Rules.{breaks, broken, extent_of}
use Rattle.sheet.specs.declared.rules.PlanRule.{PlanRule}
use Rattle.sheet.specs.declared.layout.Layout.{Layout}

-- where there is such a route, lever or signal
pub breaks_there : (l : Layout) (rule : PlanRule) (k : ℕ) → k < extent_of l rule → breaks l rule k ≡ broken l rule k
breaks_there l rule k h = let t = lt-ltb k (extent_of l rule) h in rw t

lowest_below : (f g : ℕ → Bool) (n : ℕ) → ((k : ℕ) → k < n → f k ≡ g k) → lowest f n ≡ lowest g n
lowest_below f g zero h = refl
lowest_below f g (suc n) h = let a = lowest_below f g n (λ k b. h k (omega arith)) in let b = h n (omega arith) in rw (a, b)

pub lowest_there : (l : Layout) (rule : PlanRule) → lowest (breaks l rule) (extent_of l rule) ≡ lowest (broken l rule) (extent_of l rule)
lowest_there l rule = lowest_below (breaks l rule) (broken l rule) (extent_of l rule) (λ k h. breaks_there l rule k h)
