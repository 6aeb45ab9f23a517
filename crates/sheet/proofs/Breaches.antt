-- The breaches of a rule, one by one, and that they agree with what reading refuses.
use Rattle.std.proofs.Common.{◌≡◌, ℕ, zero, suc, ◌+◌, Bool, true, false, cond, List, [], ◌∷◌, ◌++◌, map, Some, None, Option, sym, refl, ap, ◌∙◌, subst, add-one}
use Rattle.std.proofs.lemmas.List.{append_assoc, append-nil, map_push}
use Rattle.basics.specs.Scan.{lowest, or_else, passing}
use Rattle.sheet.specs.Bits.{Read, done, fault}
use Rattle.sheet.specs.Fields.{layout_at}
use Rattle.sheet.specs.Rules.{broken, extent_of, flaw_of, lowest_broken}
use Rattle.sheet.specs.Decode.{Outcome, accepted, refuse, ruled, settled, decode}
use Rattle.sheet.specs.Survey.{breaches, breaches_to, all_breaches, surveyed, faults_of, Agreeing}
use Rattle.sheet.specs.declared.fault.SheetFault.{SheetFault}
use Rattle.sheet.specs.declared.rules.PlanRule.{PlanRule}
use Rattle.sheet.specs.declared.rules.PlanRule.TheVariants.{OneRouteASide, LeversServe, SignalsServe}
use Rattle.sheet.specs.declared.layout.Layout.{Layout}

module _ (l : Layout) (r : PlanRule) (k : ℕ) where
  pub breach_more : broken l r k ≡ true → breaches_to l r (k + 1) ≡ breaches_to l r k ++ record { flaw = flaw_of r; place = k } ∷ []
  breach_more t = rw (add-one, t) (map_push (λ p. record { flaw = flaw_of r; place = p }) (passing (broken l r) k) k)

  pub breach_none : broken l r k ≡ false → breaches_to l r (k + 1) ≡ breaches_to l r k
  breach_none t = let a = append-nil (passing (broken l r) k) in rw (add-one, t, a)

-- what the parts of a reading say of all faults
module _ (s t : List ℕ) (i : ℕ) (e : t ≡ s) (z : i ≡ 0) where
  pub faults_done : (l : Layout) (u : List ℕ) (j : ℕ) → done l u j ≡ layout_at t i → all_breaches l ≡ faults_of s
  faults_done l u j h = ap surveyed h ∙ (cc)

  pub faults_fault : (x : SheetFault) → fault x.flaw x.place ≡ layout_at t i → x ∷ [] ≡ faults_of s
  faults_fault x h = ap surveyed h ∙ (cc)

abbrev first_in : List ℕ → Option ℕ
first_in [] = None
first_in (p ∷ ps) = Some p

first_append : (ps qs : List ℕ) → first_in (ps ++ qs) ≡ or_else (first_in ps) (first_in qs)
first_append [] qs = refl
first_append (p ∷ ps) qs = refl

first_cond : (b : Bool) (n : ℕ) → first_in (cond b (n ∷ []) []) ≡ cond b (Some n) None
first_cond true n = refl
first_cond false n = refl

first_passing : (f : ℕ → Bool) (n : ℕ) → first_in (passing f n) ≡ lowest f n
first_passing f zero = refl
first_passing f (suc n) =
    let a = first_append (passing f n) (cond (f n) (n ∷ []) []) in
    let b = first_passing f n in
    let d = first_cond (f n) n in
    rw (a, b, d)

-- the breaches of one rule before the faults of what comes after
agree_first : (r : PlanRule) (ps : List ℕ) (xs : List SheetFault) (o : Outcome) → Agreeing xs o
    → Agreeing (map (λ p. record { flaw = flaw_of r; place = p }) ps ++ xs) (refuse r (first_in ps) o)
agree_first r [] xs o h = h
agree_first r (p ∷ ps) xs o h = (refl, refl)

agree_rule : (l : Layout) (r : PlanRule) (xs : List SheetFault) (o : Outcome) → Agreeing xs o → Agreeing (breaches l r ++ xs) (refuse r (lowest_broken l r) o)
agree_rule l r xs o h =
    subst (λ q. Agreeing (breaches l r ++ xs) (refuse r q o)) (first_passing (broken l r) (extent_of l r)) (agree_first r (passing (broken l r) (extent_of l r)) xs o h)

agree_rules : (l : Layout) → Agreeing (all_breaches l) (ruled l)
agree_rules l =
    let a = breaches l OneRouteASide in
    let b = breaches l LeversServe in
    let c = breaches l SignalsServe in
    let e : a ++ (b ++ (c ++ [])) ≡ (a ++ b) ++ c = ap (λ x. a ++ (b ++ x)) (append-nil c) ∙ sym (append_assoc a b c) in
    subst (λ x. Agreeing x (ruled l)) e
    (agree_rule l OneRouteASide (b ++ (c ++ [])) _ (agree_rule l LeversServe (c ++ []) _ (agree_rule l SignalsServe [] (accepted l) tt)))

agree_read : (x : Read Layout) → Agreeing (surveyed x) (settled x)
agree_read (done l s i) = agree_rules l
agree_read (fault w p) = (refl, refl)

-- the survey agrees with reading
pub agreeing : (s : List ℕ) → Agreeing (faults_of s) (decode s)
agreeing s = agree_read (layout_at s 0)
