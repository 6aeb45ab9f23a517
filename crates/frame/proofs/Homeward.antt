-- A route that is out is brought home.
use Rattle.std.proofs.Common.{◌≡◌, ℕ, ◌<◌, Bool, true, false, List, [], ◌∷◌, sym, refl, ap, ◌∙◌, subst, arith}
use Rattle.std.proofs.lemmas.List.{get_or-set_same}
use Rattle.std.proofs.lemmas.Bool.{lt-ltb}
use Rattle.sheet.specs.declared.layout.Release.{Release as ReleasedBy}
use Rattle.sheet.specs.declared.layout.Release.TheVariants.{Station, Train}
use Rattle.block.specs.Meaning.{is_out}
use Rattle.board.specs.Answers.{accepted, settled}
use Rattle.board.specs.Boards.{arm_at, is_held, is_pulled, is_run, is_set, lever_at, released, route_of, stage_at, thrown}
use Rattle.board.specs.Calls.{freed}
use Rattle.board.specs.declared.board.Lever.TheVariants as lever
use Rattle.board.specs.declared.board.Stage.{Stage}
use Rattle.board.specs.declared.board.Stage.TheVariants.{Open}
use Rattle.board.specs.declared.board.Arm.TheVariants as arm
use Rattle.frame.specs.declared.call.Call.{Call}
use Rattle.frame.specs.declared.call.Call.TheVariants.{Restore, Release, Normal, Return}
use Rattle.frame.specs.declared.entry.Entry.{Entry}
use Rattle.frame.specs.Calls.{State, answer_of, changed, after}
use Rattle.frame.specs.Entries.{letter, unworked, entry_answer, entry_after}
use Rattle.frame.specs.Home.{when, homeward, TrainGone, Home, Homing}
use Rattle.frame.proofs.Facts.{released_free, set_parts}
use Rattle.frame.proofs.Hostile.{out_within}
use Rattle.frame.proofs.Lawful.{kept}
use Rattle.frame.proofs.Passed.{routes}
use Rattle.frame.proofs.Safe.{Safe, keeps, field_within, lever_within, signal_within}

-- what stands of a route on its way
record Way (s : State) (r : ℕ) : Type 0 where
  safe : Safe s
  known : r < routes s
  out : is_out s.block r ≡ true
  whole : s.block.whole ≡ true

return_taken : (s : State) (r : ℕ) → Way s r → is_set s.plan s.board r ≡ false → answer_of Return r s ≡ accepted
return_taken s r w n =
    let a = lt-ltb r (routes s) w.known in
    let l = out_within s.block w.safe.sized.lines r w.out in
    let c = w.whole in
    let d = w.out in
    grind (arith, a, n, l, c, d)

normal_taken : (s : State) (r : ℕ) → Way s r → is_set s.plan s.board r ≡ true → is_held (stage_at s.board r) ≡ false → answer_of Normal r s ≡ accepted
normal_taken s r w n h = let a = lt-ltb r (routes s) w.known in let t = (set_parts s.plan s.board r n).1 in rw (a, t, h)

gone_freed : (x : ReleasedBy) (g : Stage) (r : ℕ) → (x ≡ Train → is_run g ≡ true) → freed x g true r ≡ accepted
gone_freed Station g r f = refl
gone_freed Train g r f = let h = f refl in rw h

release_taken : (s : State) (r : ℕ) → Way s r → is_held (stage_at s.board r) ≡ true → is_pulled (arm_at s.board (route_of s.plan r).signal) ≡ false → TrainGone s r → answer_of Release r s ≡ accepted
release_taken s r w h n f = let a = lt-ltb r (routes s) w.known in let b = w.whole in rw (a, h, n, b) (gone_freed (route_of s.plan r).release (stage_at s.board r) r (λ e. f e h))

restore_taken : (s : State) (r : ℕ) → Way s r → is_pulled (arm_at s.board (route_of s.plan r).signal) ≡ true → answer_of Restore (route_of s.plan r).signal s ≡ accepted
restore_taken s r w h = let a = lt-ltb (route_of s.plan r).signal s.plan.counts.signals (w.safe.ordered.within r w.known).1 in rw (a, h)

-- one accepted call more, in front
more : (c : Call) (n r : ℕ) (s : State) (es : List Entry) → entry_answer (unworked (letter c) n) s ≡ answer_of c n s → entry_after (unworked (letter c) n) s ≡ after c n s → answer_of c n s ≡ accepted → Home (changed c n s) r es → Home s r (unworked (letter c) n ∷ es)
more c n r s es ea eb h k =
    let t : entry_after (unworked (letter c) n) s ≡ changed c n s = eb ∙ ap (λ a. settled a (changed c n s) s) h in
    let k' : Home (entry_after (unworked (letter c) n) s) r es = subst (λ (x : State). Home x r es) (sym t) k in
    record { accepted = (ea ∙ h, k'.accepted); consent = k'.consent; lever = k'.lever; field = k'.field }

ended : (s : State) (r : ℕ) → Way s r → is_set s.plan s.board r ≡ false → Home (changed Return r s) r []
ended s r w n = record {
  accepted = tt;
  consent = get_or-set_same s.block.out r false false (omega (arith, out_within s.block w.safe.sized.lines r w.out, w.safe.sized.lines));
  lever = n;
  field = get_or-set_same s.board.fields r Open Open (field_within s w.safe r w.known);
}

return_home : (s : State) (r : ℕ) → Way s r → is_set s.plan s.board r ≡ false → Home s r (when true Return r [])
return_home s r w n = more Return r r s [] refl refl (return_taken s r w n) (ended s r w n)

normal_home : (s : State) (r : ℕ) → Way s r → is_held (stage_at s.board r) ≡ false → Home s r (when (is_set s.plan s.board r) Normal r (when true Return r []))
normal_home s r w h = go (is_set s.plan s.board r) refl
  where
    go : (b : Bool) → is_set s.plan s.board r ≡ b → Home s r (when b Normal r (when true Return r []))
    go true e =
        let a = normal_taken s r w e h in
        let k = lt-ltb r (routes s) w.known in
        let x : thrown (lever_at (changed Normal r s).board (route_of s.plan r).lever) (route_of s.plan r).side ≡ false = ap (λ z. thrown z (route_of s.plan r).side) (get_or-set_same s.board.levers (route_of s.plan r).lever lever.Normal lever.Normal (lever_within s w.safe r w.known)) in
        more Normal r r s (when true Return r []) refl refl a
        (return_home (changed Normal r s) r (record { safe = keeps Normal r s a w.safe; known = w.known; out = w.out; whole = w.whole }) (rw (k, x)))
    go false e = return_home s r w e

release_home : (s : State) (r : ℕ) → Way s r → is_pulled (arm_at s.board (route_of s.plan r).signal) ≡ false → TrainGone s r → Home s r (when (is_held (stage_at s.board r)) Release r (when (is_set s.plan s.board r) Normal r (when true Return r [])))
release_home s r w n f = go (is_held (stage_at s.board r)) refl
  where
    go : (b : Bool) → is_held (stage_at s.board r) ≡ b → Home s r (when b Release r (when (is_set s.plan s.board r) Normal r (when true Return r [])))
    go true e =
        let a = release_taken s r w e n f in
        let free = ap is_held (get_or-set_same s.board.fields r (released (stage_at s.board r)) Open (field_within s w.safe r w.known)) ∙ released_free (stage_at s.board r) in
        more Release r r s (when (is_set s.plan s.board r) Normal r (when true Return r [])) refl refl a
        (normal_home (changed Release r s) r (record { safe = keeps Release r s a w.safe; known = w.known; out = w.out; whole = w.whole }) free)
    go false e = normal_home s r w e

brought : (s : State) (r : ℕ) → Way s r → TrainGone s r → Home s r (homeward s r)
brought s r w f = go (is_pulled (arm_at s.board (route_of s.plan r).signal)) refl
  where
    go : (b : Bool) → is_pulled (arm_at s.board (route_of s.plan r).signal) ≡ b → Home s r (when b Restore (route_of s.plan r).signal (when (is_held (stage_at s.board r)) Release r (when (is_set s.plan s.board r) Normal r (when true Return r []))))
    go true e =
        let g = (route_of s.plan r).signal in
        let a = restore_taken s r w e in
        let down = ap is_pulled (get_or-set_same s.board.signals g arm.Normal arm.Normal (signal_within s w.safe r w.known)) in
        more Restore g r s (when (is_held (stage_at s.board r)) Release r (when (is_set s.plan s.board r) Normal r (when true Return r []))) refl refl a
        (release_home (changed Restore g s) r (record { safe = keeps Restore g s a w.safe; known = w.known; out = w.out; whole = w.whole }) down f)
    go false e = release_home s r w e f

pub homing : Homing
homing p m past s d r l o w f = brought s r (record { safe = (kept p m d).safe; known = l; out = o; whole = w }) f
