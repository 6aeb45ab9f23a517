-- A duty goes on: by a call, by a list and from its loading.
use Rattle.std.proofs.Common.{◌≡◌, ℕ, zero, suc, List, [], ◌∷◌, ◌++◌, take, Some, None, Ok, Err, Option, sym, refl, ap, ◌∙◌, subst}
use Rattle.std.proofs.lemmas.List.{append_assoc, append-nil}
use Rattle.sheet.specs.declared.layout.Layout.{Layout}
use Rattle.sheet.specs.declared.plan.Plan.{Plan}
use Rattle.block.specs.Meaning.{Meaning, WellFormed}
use Rattle.board.specs.Answers.{Answer, accepted, refuse, settled}
use Rattle.board.specs.declared.answer.FrameFault.TheVariants.{UnknownCall}
use Rattle.frame.specs.declared.call.Call.{Call}
use Rattle.frame.specs.declared.call.Call.TheVariants.{Give, Throw, Trail, Recouple, Set, Hold, Pull, Restore, Contact, Release, Normal, Return, Cut, Mend}
use Rattle.frame.specs.declared.entry.Entry.{Entry}
use Rattle.frame.specs.Calls.{State, answer_of, changed, after, load_answer, load_after, loaded}
use Rattle.frame.specs.Entries.{letter, call_of, called, noted, entry_answer, entry_after}
use Rattle.frame.specs.Runs.{run_after, run_noted}
use Rattle.frame.specs.Law.{Duty, loading, calling, Stands, GoesOn, GoesOnEach, StandsEach}
use Rattle.frame.proofs.Lawful.{law}
use Rattle.frame.proofs.Passed.{load_passed}
use Rattle.frame.proofs.Safe.{none_out}

-- The plan stays

changed_plan : (c : Call) (n : ℕ) (s : State) → (changed c n s).plan ≡ s.plan
changed_plan Give n s = refl
changed_plan Throw n s = refl
changed_plan Trail n s = refl
changed_plan Recouple n s = refl
changed_plan Set n s = refl
changed_plan Hold n s = refl
changed_plan Pull n s = refl
changed_plan Restore n s = refl
changed_plan Contact n s = refl
changed_plan Release n s = refl
changed_plan Normal n s = refl
changed_plan Return n s = refl
changed_plan Cut n s = refl
changed_plan Mend n s = refl

abbrev plan_of : State → Layout
plan_of s = s.plan

entry_plan : (e : Entry) (s : State) → (entry_after e s).plan ≡ s.plan
entry_plan e s = go (call_of e.letter)
  where
    by : (c : Call) (a : Answer) → (settled a (changed c e.number s) s).plan ≡ s.plan
    by c (Ok _) = changed_plan c e.number s
    by c (Err _) = refl

    go : (o : Option Call) → plan_of (elim o [ Some c ↦ after c e.number s | None ↦ s ]) ≡ plan_of s
    go (Some c) = by c (answer_of c e.number s)
    go None = refl

kept_plan : (p : Plan) (m : Meaning) {past : List Entry} {s : State} → Duty p m past s → s.plan ≡ p.layout
kept_plan p m (loading a f b h) = refl
kept_plan p m (calling {past = past} {s = s} d e) = entry_plan e s ∙ kept_plan p m d

stands : (p : Plan) (m : Meaning) (past : List Entry) (s : State) → Duty p m past s → Stands p m past s
stands p m past s d = record { duty = d; planned = kept_plan p m d; lawful = law p m past s d }

-- By a list

duty_run : (p : Plan) (m : Meaning) (es past : List Entry) (s : State) → Duty p m past s → Duty p m (past ++ run_noted es s) (run_after es s)
duty_run p m [] past s d = rw append-nil d
duty_run p m (e ∷ es) past s d =
    let x = noted e (entry_answer e s) in
    subst (λ xs. Duty p m xs (run_after es (entry_after e s))) (append_assoc past (x ∷ []) (run_noted es (entry_after e s))) (duty_run p m es (past ++ (x ∷ [])) (entry_after e s) (calling d e))

goes_on : (es : List Entry) (s : State) → GoesOn s (run_noted es s) (run_after es s)
goes_on es s p m past d = stands p m (past ++ run_noted es s) (run_after es s) (duty_run p m es past s d)

take-noted : (k : ℕ) (es : List Entry) (s : State) → take k (run_noted es s) ≡ run_noted (take k es) s
take-noted zero es s = refl
take-noted (suc k) [] s = refl
take-noted (suc k) (e ∷ es) s = ap (λ xs. noted e (entry_answer e s) ∷ xs) (take-noted k es (entry_after e s))

goes_on_each : (es : List Entry) (s : State) → GoesOnEach s es (run_noted es s)
goes_on_each es s k l = subst (λ xs. GoesOn s xs (run_after (take k es) s)) (sym (take-noted k es s)) (goes_on (take k es) s)

-- By a call

call_known : (c : Call) → call_of (letter c) ≡ Some c
call_known Give = refl
call_known Throw = refl
call_known Trail = refl
call_known Recouple = refl
call_known Set = refl
call_known Hold = refl
call_known Pull = refl
call_known Restore = refl
call_known Contact = refl
call_known Release = refl
call_known Normal = refl
call_known Return = refl
call_known Cut = refl
call_known Mend = refl

pub goes_on_call : (c : Call) (n : ℕ) (s : State) → GoesOn s (called c n (answer_of c n s) ∷ []) (after c n s)
goes_on_call c n s =
    let e = called c n accepted in
    subst (λ (o : Option Call). GoesOn s (noted e (elim o [ Some d ↦ answer_of d n s | None ↦ refuse UnknownCall n ]) ∷ []) (elim o [ Some d ↦ after d n s | None ↦ s ])) (call_known c) (goes_on (e ∷ []) s)

-- From its loading

loads : (p : Plan) (s : State) → WellFormed s.block → load_answer p.layout s ≡ accepted → Duty p s.block [] (loaded p.layout s.block)
loads p s f h = let w = load_passed p.layout s h in loading w.0 f w.1 (none_out s.block f.each f.few w.2)

-- The same, of what stands equal to these

pub goes_on_worked : (c : Call) (n : ℕ) (s t : State) (a : Answer) → a ≡ answer_of c n s → t ≡ after c n s → GoesOn s (called c n a ∷ []) t
goes_on_worked c n s t a ha ht = rw (ha, ht) (goes_on_call c n s)

pub goes_on_noted : (es : List Entry) (s : State) (worked : List Entry) (t : State) → worked ≡ run_noted es s → t ≡ run_after es s → GoesOn s worked t
goes_on_noted es s worked t hw ht = rw (hw, ht) (goes_on es s)

pub goes_on_each-noted : (es : List Entry) (s : State) (worked : List Entry) → worked ≡ run_noted es s → GoesOnEach s es worked
goes_on_each-noted es s worked hw = rw hw (goes_on_each es s)

module _ (p : Plan) (s : State) (f : WellFormed s.block) (h : load_answer p.layout s ≡ accepted) where
  pub stands_loaded : (t : State) → t ≡ load_after p.layout s → Stands p s.block [] t
  stands_loaded t e = rw (e, h) (stands p s.block [] (loaded p.layout s.block) (loads p s f h))

  pub stands_noted : (es worked : List Entry) (t : State) → worked ≡ run_noted es (loaded p.layout s.block) → t ≡ run_after es (loaded p.layout s.block) → Stands p s.block worked t
  stands_noted es worked t hw ht = rw (hw, ht) (goes_on es (loaded p.layout s.block) p s.block [] (loads p s f h))

  pub stands_each-noted : (es worked : List Entry) → worked ≡ run_noted es (loaded p.layout s.block) → StandsEach p s.block es worked
  stands_each-noted es worked hw = rw hw (λ k l. goes_on_each es (loaded p.layout s.block) k l p s.block [] (loads p s f h))
