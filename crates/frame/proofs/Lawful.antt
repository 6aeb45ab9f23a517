-- The law of a duty, from what each call keeps.
use Rattle.std.proofs.Common.{◌≡◌, ℕ, ◌+◌, ◌<◌, ◌≤◌, Bool, true, false, cond, ◌&&◌, ◌||◌, eqb, ◌≢◌, List, [], ◌∷◌, ◌++◌, length, get_or, set, Some, None, Ok, Err, Option, sym, refl, ap, ◌∙◌, ⊎_elim, arith}
use Rattle.std.proofs.lemmas.List.Sums.{fold_push}
use Rattle.std.proofs.lemmas.Bool.{and_parts, both_ways, cases_eq, eq-eqb, eqb-true, ne_eqb, or_cases}
use Rattle.basics.proofs.Scans.{lowest_some}
use Rattle.sheet.specs.declared.plan.Plan.{Plan}
use Rattle.block.specs.Meaning.{Meaning, is_out}
use Rattle.board.specs.Answers.{Answer, accepted, answer_number, refusal, refuse, settled}
use Rattle.board.specs.Boards.{is_held, is_run, is_spent, is_clear, released, stage_at, is_set, is_signalled, serves}
use Rattle.board.specs.Calls.{set_route_of, pull_for, pulled_for}
use Rattle.board.specs.declared.answer.FrameFault.TheVariants.{UnknownCall}
use Rattle.board.specs.declared.answer.Refusal.{Refusal}
use Rattle.board.specs.declared.board.Stage.{Stage}
use Rattle.board.specs.declared.board.Stage.TheVariants.{Open, Held, Cleared, Run, Spent}
use Rattle.frame.specs.declared.call.Call.{Call}
use Rattle.frame.specs.declared.call.Call.TheVariants.{Give, Throw, Trail, Recouple, Set, Hold, Pull, Restore, Contact, Release, Normal, Return, Cut, Mend}
use Rattle.frame.specs.declared.entry.Entry.{Entry}
use Rattle.frame.specs.Calls.{State, with_board, answer_of, changed, after}
use Rattle.frame.specs.Entries.{letter, call_of, noted, entry_answer, entry_after}
use Rattle.frame.specs.Law.{Duty, loading, calling, did, one, count, ran_next, has_run, in_use, OneOfTwo, ClearGuarded, Law}
use Rattle.frame.proofs.Facts.{by_set, cleared_held, is_cleared_lem, set_parts, stands_as}
use Rattle.frame.proofs.Hostile.{hostile_signal}
use Rattle.frame.proofs.Passed.{routes, give_passed, hold_passed, pull_passed, pull_for_passed, contact_passed, release_passed, return_passed}
use Rattle.frame.proofs.Safe.{Safe, entry_keeps, field_within, fresh_safe}

never : (b : Bool) → (b ≡ true → ⊥) → b ≡ false
never true h = absurd (h refl)
never false h = refl

-- At one moment

in_use_out : (s : State) → Safe s → (r : ℕ) → in_use s r ≡ true → is_out s.block r ≡ true
in_use_out s k r h =
    ⊎_elim
    (λ e. e)
    (λ e. k.set_out r (⊎_elim (λ f. f) (λ f. (and_parts (is_set s.plan s.board r) _ f).0) (or_cases (is_set s.plan s.board r) (is_signalled s.plan s.board r) e)))
    (or_cases (is_out s.block r) (is_set s.plan s.board r || is_signalled s.plan s.board r) h)

one_of_two : (s : State) → Safe s → OneOfTwo s
one_of_two s k r q w a = never (in_use s q) (λ b. k.out_apart r q w (in_use_out s k r a) (in_use_out s k q b))

-- Counts

call_code : (x : ℕ) (c : Call) → call_of x ≡ Some c → x ≡ letter c
call_code x c h = grind (arith, eqb-true)

abbrev outs : State → ℕ → ℕ
outs s r = one (is_out s.block r)

-- the train of a consent has not run yet
abbrev waiting : Stage → Bool
waiting Open = true
waiting Held = true
waiting Cleared = true
waiting Run = false
waiting Spent = false

abbrev due : State → ℕ → ℕ
due s r = one (is_out s.block r && waiting (stage_at s.board r))

-- an accepted call, as the counts see it
abbrev tick : Call → Call → ℕ → ℕ → ℕ
tick d c n r = one (eqb (letter c) (letter d) && (eqb n r && eqb 0 0))

abbrev Balance : Call → ℕ → State → ℕ → Type 0
Balance c n s r = tick Give c n r + outs s r ≡ tick Return c n r + outs (changed c n s) r

abbrev Trains : Call → ℕ → State → ℕ → Type 0
Trains c n s r = tick Contact c n r + due (changed c n s) r ≤ tick Give c n r + due s r

same_number : (n r : ℕ) → r ≡ n → eqb n r ≡ true
same_number n r e = eq-eqb n r (sym e)

other_number : (n r : ℕ) → r ≢ n → eqb n r ≡ false
other_number n r ne = ne_eqb n r (λ e. ne (sym e))

line_within : (s : State) → Safe s → (r : ℕ) → r < s.block.lines → r < length s.block.out
line_within s k r l = omega (arith, k.sized.lines)

give_balance : (n : ℕ) (s : State) (r : ℕ) → answer_of Give n s ≡ accepted → Safe s → Balance Give n s r
give_balance n s r h k =
    let p = give_passed n s h in
    by_set s.block.out n r true false (λ z. tick Give Give n r + outs s r ≡ tick Return Give n r + one z) (line_within s k n p.1)
    (λ e. let a = same_number n r e in let b : is_out s.block r ≡ false = ap (is_out s.block) e ∙ p.2 in rw (a, b))
    (λ ne. let a = other_number n r ne in rw a)

return_balance : (n : ℕ) (s : State) (r : ℕ) → answer_of Return n s ≡ accepted → Safe s → Balance Return n s r
return_balance n s r h k =
    let p = return_passed n s h in
    by_set s.block.out n r false false (λ z. tick Give Return n r + outs s r ≡ tick Return Return n r + one z) (line_within s k n p.1)
    (λ e. let a = same_number n r e in let b : is_out s.block r ≡ true = ap (is_out s.block) e ∙ p.3 in rw (a, b))
    (λ ne. let a = other_number n r ne in rw a)

balance : (c : Call) (n : ℕ) (s : State) (r : ℕ) → answer_of c n s ≡ accepted → Safe s → Balance c n s r
balance Give n s r h k = give_balance n s r h k
balance Throw n s r h k = refl
balance Trail n s r h k = refl
balance Recouple n s r h k = refl
balance Set n s r h k = refl
balance Hold n s r h k = refl
balance Pull n s r h k = refl
balance Restore n s r h k = refl
balance Contact n s r h k = refl
balance Release n s r h k = refl
balance Normal n s r h k = refl
balance Return n s r h k = return_balance n s r h k
balance Cut n s r h k = refl
balance Mend n s r h k = refl

waiting_hold : (x : Stage) → is_held x ≡ false → is_spent x ≡ false → waiting x ≡ true
waiting_hold Open a b = refl
waiting_hold Held a b = refl
waiting_hold Cleared a b = refl
waiting_hold Run a b = absurd (both_ways true a refl)
waiting_hold Spent a b = absurd (both_ways true b refl)

waiting_pull : (x : Stage) → is_held x ≡ true → is_run x ≡ false → waiting x ≡ true
waiting_pull Open a b = refl
waiting_pull Held a b = refl
waiting_pull Cleared a b = refl
waiting_pull Run a b = absurd (both_ways true b refl)
waiting_pull Spent a b = absurd (both_ways false refl a)

waiting-released : (x : Stage) → waiting (released x) ≡ waiting x
waiting-released Open = refl
waiting-released Held = refl
waiting-released Cleared = refl
waiting-released Run = refl
waiting-released Spent = refl

-- a field that is written and waits as before
due_same : (s : State) (n : ℕ) (x : Stage) (r : ℕ) → n < length s.board.fields → waiting x ≡ waiting (stage_at s.board n) → one (is_out s.block r && waiting (get_or (set s.board.fields n x) r Open)) ≤ due s r
due_same s n x r l e =
    by_set s.board.fields n r x Open (λ z. one (is_out s.block r && waiting z) ≤ due s r) l
    (λ f. let a : waiting x ≡ waiting (stage_at s.board r) = e ∙ ap (λ i. waiting (stage_at s.board i)) (sym f) in rw a (omega arith))
    (λ _. omega arith)

one_le : (b : Bool) → one b ≤ 1
one_le true = omega arith
one_le false = omega arith

give_trains : (n : ℕ) (s : State) (r : ℕ) → answer_of Give n s ≡ accepted → Safe s → Trains Give n s r
give_trains n s r h k =
    by_set s.block.out n r true false (λ z. 0 + one (z && waiting (stage_at s.board r)) ≤ tick Give Give n r + due s r) (line_within s k n (give_passed n s h).1)
    (λ e. let a = same_number n r e in rw a (omega (arith, one_le (waiting (stage_at s.board r)))))
    (λ ne. let a = other_number n r ne in rw a (omega arith))

contact_trains : (n : ℕ) (s : State) (r : ℕ) → answer_of Contact n s ≡ accepted → Safe s → Trains Contact n s r
contact_trains n s r h k =
    let p = contact_passed n s h in
    let c = is_cleared_lem (stage_at s.board n) p.1 in
    let o = k.set_out n (k.held_set n (cleared_held _ c)) in
    by_set s.board.fields n r Run Open (λ z. tick Contact Contact n r + one (is_out s.block r && waiting z) ≤ 0 + due s r) (field_within s k n p.0)
    (λ e.
    let a = same_number n r e in
    let b : is_out s.block r ≡ true = ap (is_out s.block) e ∙ o in
    let d : stage_at s.board r ≡ Cleared = ap (stage_at s.board) e ∙ c in
    rw (a, b, d) (omega arith))
    (λ ne. let a = other_number n r ne in rw a (omega arith))

pull_trains : (g : ℕ) (s : State) (r : ℕ) → Safe s → (o : Option ℕ) → set_route_of s.plan s.board g ≡ o → pull_for s.plan s.board g o ≡ accepted → 0 + due (with_board s (pulled_for s.board g o)) r ≤ 0 + due s r
pull_trains g s r k None e h = omega arith
pull_trains g s r k (Some n) e h =
    let w = lowest_some (serves s.plan s.board g) (routes s) n e in
    let u = pull_for_passed s.plan s.board g n h in
    omega (arith, due_same s n Cleared r (field_within s k n w.0) (sym (waiting_pull (stage_at s.board n) u.0 u.1)))

return_trains : (n : ℕ) (s : State) (r : ℕ) → answer_of Return n s ≡ accepted → Safe s → Trains Return n s r
return_trains n s r h k =
    let p = return_passed n s h in
    by_set s.block.out n r false false (λ z. 0 + one (z && waiting (get_or (set s.board.fields n Open) r Open)) ≤ 0 + due s r) (line_within s k n p.1)
    (λ e. omega arith)
    (λ ne. by_set s.board.fields n r Open Open (λ z. 0 + one (is_out s.block r && waiting z) ≤ 0 + due s r) (field_within s k n p.0) (λ e. absurd (ne e)) (λ _. omega arith))

trains : (c : Call) (n : ℕ) (s : State) (r : ℕ) → answer_of c n s ≡ accepted → Safe s → Trains c n s r
trains Give n s r h k = give_trains n s r h k
trains Throw n s r h k = omega arith
trains Trail n s r h k = omega arith
trains Recouple n s r h k = omega arith
trains Set n s r h k = omega arith
trains Hold n s r h k = let p = hold_passed n s h in omega (arith, due_same s n Held r (field_within s k n p.0) (sym (waiting_hold (stage_at s.board n) p.2 p.3)))
trains Pull n s r h k = pull_trains n s r k (set_route_of s.plan s.board n) refl (pull_passed n s h).1
trains Restore n s r h k = omega arith
trains Contact n s r h k = contact_trains n s r h k
trains Release n s r h k = omega (arith, due_same s n (released (stage_at s.board n)) r (field_within s k n (release_passed n s h).0) (waiting-released (stage_at s.board n)))
trains Normal n s r h k = omega arith
trains Return n s r h k = return_trains n s r h k
trains Cut n s r h k = omega arith
trains Mend n s r h k = omega arith

-- a refused entry counts for nothing
refused_number : (x : Refusal) → eqb (answer_number (Err x)) 0 ≡ false
refused_number x = grind arith

not_did : (a b c : Bool) → c ≡ false → one (a && (b && c)) ≡ 0
not_did a b c h = grind arith

-- one entry
abbrev Told : Entry → State → ℕ → Answer → State → Type 0
Told e s r a t =
    (one (did Give r (noted e a)) + outs s r ≡ one (did Return r (noted e a)) + outs t r) ×
    (one (did Contact r (noted e a)) + due t r ≤ one (did Give r (noted e a)) + due s r)

told_refused : (e : Entry) (s : State) (r : ℕ) (y : Refusal) → Told e s r (Err y) s
told_refused e s r y =
    let x = refused_number y in
    let a = not_did (eqb e.letter (letter Give)) (eqb e.number r) _ x in
    let b = not_did (eqb e.letter (letter Return)) (eqb e.number r) _ x in
    let d = not_did (eqb e.letter (letter Contact)) (eqb e.number r) _ x in
    (omega arith, omega arith)

told_accepted : (e : Entry) (s : State) (r : ℕ) (c : Call) → Safe s → e.letter ≡ letter c → answer_of c e.number s ≡ accepted → Told e s r accepted (changed c e.number s)
told_accepted e s r c k l h = rw l (balance c e.number s r h k, trains c e.number s r h k)

told : (e : Entry) (s : State) (r : ℕ) → Safe s → Told e s r (entry_answer e s) (entry_after e s)
told e s r k = go (call_of e.letter) refl
  where
    by : (c : Call) → e.letter ≡ letter c → (a : Answer) → answer_of c e.number s ≡ a → Told e s r a (settled a (changed c e.number s) s)
    by c l (Ok _) h = told_accepted e s r c k l h
    by c l (Err y) h = told_refused e s r y

    go : (o : Option Call) → call_of e.letter ≡ o → Told e s r (elim o [ Some c ↦ answer_of c e.number s | None ↦ refuse UnknownCall e.number ]) (elim o [ Some c ↦ after c e.number s | None ↦ s ])
    go (Some c) h = by c (call_code e.letter c h) (answer_of c e.number s) refl
    go None h = told_refused e s r (refusal UnknownCall e.number)

-- once the train has run, none is due
ran_step : (g a b : Bool) (d d' : ℕ) → one a + d' ≤ one g + d → d ≤ 1 → (b ≡ true → d ≡ 0) → cond g false (cond a true b) ≡ true → d' ≡ 0
ran_step true a b d d' h l k e = absurd (both_ways false refl e)
ran_step false true b d d' h l k e = omega arith
ran_step false false b d d' h l k e = let z = k e in omega arith

-- What a duty keeps

pub record Kept (s : State) (past : List Entry) : Type 0 where
  pub safe : Safe s
  even : (r : ℕ) → count Give r past ≡ count Return r past + outs s r
  owed : (r : ℕ) → count Contact r past + due s r ≤ count Give r past
  ran : (r : ℕ) → has_run r past ≡ true → due s r ≡ 0

count_more : (c : Call) (r : ℕ) (past : List Entry) (e : Entry) → count c r (past ++ (e ∷ [])) ≡ count c r past + one (did c r e)
count_more c r [] e = omega arith
count_more c r (x ∷ xs) e = let h = count_more c r xs e in omega arith

kept_more : (e : Entry) (s : State) (past : List Entry) → Kept s past → Kept (entry_after e s) (past ++ (noted e (entry_answer e s) ∷ []))
kept_more e s past k =
    let x = noted e (entry_answer e s) in
    record {
      safe = entry_keeps e s k.safe;
      even = λ r. omega (arith, (told e s r k.safe).0, count_more Give r past x, count_more Return r past x, k.even r);
      owed = λ r. omega (arith, (told e s r k.safe).1, count_more Give r past x, count_more Contact r past x, k.owed r);
      ran = λ r h. ran_step (did Give r x) (did Contact r x) (has_run r past) (due s r) (due (entry_after e s) r) (told e s r k.safe).1 (one_le _) (k.ran r) (sym (fold_push (ran_next r) false past x) ∙ h);
    }

pub kept : (p : Plan) (m : Meaning) {past : List Entry} {s : State} → Duty p m past s → Kept s past
kept p m (loading a f b h) = record {
  safe = fresh_safe p.layout m (record { few = p.few; within = p.within; apart = p.apart }) f.each h;
  even = λ r. let e = h r in rw e;
  owed = λ r. let e = h r in rw e (omega arith);
  ran = λ r e. absurd (both_ways false refl e);
}
kept p m (calling {past = past} {s = s} d e) = kept_more e s past (kept p m d)

-- The law

clear_guarded : (s : State) (past : List Entry) → Kept s past → ClearGuarded s past
clear_guarded s past t g c =
    let k = t.safe in
    let v = k.clear_served g (ap is_clear c) in
    let r = v.0 in
    let o : is_out s.block r ≡ true = k.set_out r v.1.0 in
    let x : stage_at s.board r ≡ Cleared = v.1.2 in
    let d : due s r ≡ 1 = rw (o, x) in (
      r,
      record {
        set = v.1.0;
        signal = v.1.1;
        only = λ q a b.
            ⊎_elim
            (λ e. e)
            (λ ne. absurd (k.out_apart q r (hostile_signal s.plan q r (set_parts s.plan s.board q a).0 (set_parts s.plan s.board r v.1.0).0 ne (b ∙ sym v.1.1)) (k.set_out q a) o))
            (cases_eq q r);
        consented = o;
        cleared = x;
        awaited = never (has_run r past) (λ h. let z = t.ran r h in omega arith);
        points = λ p l. stands_as _ _ (v.1.3 p l) (k.set_placed r v.1.0 p l);
      },
    )

pub law : Law
law p m past s d =
    let k = kept p m d in
    record {
      apart = one_of_two s k.safe;
      guarded = clear_guarded s past k;
      balanced = k.even;
      trains = λ r. let h = k.owed r in omega arith;
    }
