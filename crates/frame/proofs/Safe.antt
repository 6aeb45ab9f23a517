-- What every call keeps, and that each keeps it.
use Rattle.std.proofs.Common.{◌≡◌, ℕ, ◌<◌, ◌≤◌, Bool, true, false, eqb, ◌≢◌, ◌⊎◌, length, get_or, replicate, Some, None, Ok, Err, Option, sym, refl, ap, ◌∙◌, subst, inl, inr, ⊎_elim, arith, length-set}
use lib.ListN.{length-replicate}
use Rattle.std.proofs.lemmas.List.{get_or-set_same, get_or_past, get_or-replicate}
use Rattle.std.proofs.lemmas.Bool.{and_cases, and_from, and_parts, both_ways, cases_lt, eqb-true}
use Rattle.basics.proofs.Scans.{any_none, lowest_none, lowest_some}
use Rattle.sheet.specs.Hostility.{are_hostile, hostiles_of}
use Rattle.sheet.specs.Layouts.{demand_of}
use Rattle.sheet.specs.Valid.{Few, Within, Apart}
use Rattle.sheet.specs.declared.layout.Position.{Position}
use Rattle.sheet.specs.declared.layout.Route.{Route}
use Rattle.sheet.specs.declared.layout.Layout.{Layout}
use Rattle.sheet.proofs.Opponents.{hostile_symmetric}
use Rattle.block.specs.Meaning.{Meaning, is_out, any_out, with_out, with_whole}
use Rattle.board.specs.Answers.{Answer, accepted, settled}
use Rattle.board.specs.Boards.{is_trailed, demanded, elsewhere, trailed_here, plus_point, is_normal, thrown, toward, is_held, is_cleared, is_run, is_spent, released, is_clear, is_pulled, dropped, fresh, point_at, stage_at, arm_at, lever_at, lever_of, with_point, with_lever, with_stage, with_arm, route_of, is_set, claims, serves}
use Rattle.board.specs.Calls.{is_locked, hinders_at, obstacle_of, fails_at, failure_of, set_route_of, pull_for, pulled_for, set_changed, normal_changed}
use Rattle.board.specs.declared.board.Board.{Board}
use Rattle.board.specs.declared.board.Point.{Point}
use Rattle.board.specs.declared.board.Lever.{Lever}
use Rattle.board.specs.declared.board.Lever.TheVariants as lever
use Rattle.board.specs.declared.board.Stage.{Stage}
use Rattle.board.specs.declared.board.Stage.TheVariants.{Open, Held, Cleared, Run}
use Rattle.board.specs.declared.board.Arm.{Arm}
use Rattle.board.specs.declared.board.Arm.TheVariants as arm
use Rattle.frame.specs.declared.call.Call.{Call}
use Rattle.frame.specs.declared.call.Call.TheVariants.{Give, Throw, Trail, Recouple, Set, Hold, Pull, Restore, Contact, Release, Normal, Return, Cut, Mend}
use Rattle.frame.specs.declared.entry.Entry.{Entry}
use Rattle.frame.specs.Calls.{State, with_board, with_block, answer_of, changed, after, loaded, every_route}
use Rattle.frame.specs.Entries.{call_of, entry_after}
use Rattle.frame.proofs.Hostile.{hostile_apart, hostile_known, hostiles_at, none_of}
use Rattle.frame.proofs.Passed.{routes, give_passed, throw_passed, trail_passed, recouple_passed, set_passed, hold_passed, pull_passed, pull_for_passed, restore_passed, contact_passed, release_passed, normal_passed, return_passed}
use Rattle.frame.proofs.Facts.{unhindered_fits, unfailing_coupled, undemanded_fits, cleared_held, is_cleared_lem, released_free, dropped-fell, clear_pulled, thrown_once, thrown-toward, normal_not_thrown, set_parts, set_from, by_set, from_set}
use Rattle.frame.proofs.Fallen.{fell_long, fell_clear}

-- what the rules of a plan give
pub record Ordered (l : Layout) : Type 0 where
  pub few : Few l.counts
  pub within : Within l
  pub apart : Apart l

-- how long the lists are
pub record Sized (b : Board) (m : Meaning) : Type 0 where
  pub points : length b.points ≡ 32
  pub levers : length b.levers ≡ 16
  pub fields : length b.fields ≡ 32
  pub signals : length b.signals ≡ 32
  pub lines : length m.out ≡ m.lines

abbrev pub demand_at : Layout → ℕ → ℕ → Option Position
demand_at l r p = demand_of (route_of l r) p

-- the route is set behind the signal, is held and cleared, and its points are coupled
abbrev pub Served : Layout → Board → ℕ → ℕ → Type 0
Served l b g r = (is_set l b r ≡ true) × ((route_of l r).signal ≡ g) × (stage_at b r ≡ Cleared) × ((p : ℕ) → p < l.counts.points → demanded (demand_at l r p) ≡ true → is_trailed (point_at b p) ≡ false)

pub record Safe (s : State) : Type 0 where
  pub ordered : Ordered s.plan
  pub sized : Sized s.board s.block
  pub set_out : (r : ℕ) → is_set s.plan s.board r ≡ true → is_out s.block r ≡ true
  pub out_apart : (r q : ℕ) → are_hostile s.plan r q ≡ true → is_out s.block r ≡ true → is_out s.block q ≡ true → ⊥
  pub set_placed : (r : ℕ) → is_set s.plan s.board r ≡ true → (p : ℕ) → p < s.plan.counts.points → elsewhere (demand_at s.plan r p) (point_at s.board p).position ≡ false
  pub held_set : (r : ℕ) → is_held (stage_at s.board r) ≡ true → is_set s.plan s.board r ≡ true
  pub clear_served : (g : ℕ) → is_clear (arm_at s.board g) ≡ true → (r : ℕ) × Served s.plan s.board g r

-- Numbers of the plan are places of the lists

pub point_within : (s : State) → Safe s → (p : ℕ) → p < s.plan.counts.points → p < length s.board.points
point_within s k p l = omega (arith, k.sized.points, k.ordered.few.0)

pub field_within : (s : State) → Safe s → (r : ℕ) → r < routes s → r < length s.board.fields
field_within s k r l = omega (arith, k.sized.fields, k.ordered.few.3)

pub arm_within : (s : State) → Safe s → (g : ℕ) → g < s.plan.counts.signals → g < length s.board.signals
arm_within s k g l = omega (arith, k.sized.signals, k.ordered.few.1)

pub signal_within : (s : State) → Safe s → (r : ℕ) → r < routes s → (route_of s.plan r).signal < length s.board.signals
signal_within s k r l = arm_within s k (route_of s.plan r).signal (k.ordered.within r l).1

pub lever_within : (s : State) → Safe s → (r : ℕ) → r < routes s → (route_of s.plan r).lever < length s.board.levers
lever_within s k r l = omega (arith, (k.ordered.within r l).0, k.sized.levers, k.ordered.few.2)

-- After a change: the sizes

module _ {b : Board} {m : Meaning} (z : Sized b m) where
  sized_point : (p : ℕ) (x : Point) → Sized (with_point b p x) m
  sized_point p x = record { points = length-set b.points p x ∙ z.points; levers = z.levers; fields = z.fields; signals = z.signals; lines = z.lines }

  sized_lever : (v : ℕ) (x : Lever) → Sized (with_lever b v x) m
  sized_lever v x = record { points = z.points; levers = length-set b.levers v x ∙ z.levers; fields = z.fields; signals = z.signals; lines = z.lines }

  sized_stage : (r : ℕ) (x : Stage) → Sized (with_stage b r x) m
  sized_stage r x = record { points = z.points; levers = z.levers; fields = length-set b.fields r x ∙ z.fields; signals = z.signals; lines = z.lines }

  sized_arm : (g : ℕ) (x : Arm) → Sized (with_arm b g x) m
  sized_arm g x = record { points = z.points; levers = z.levers; fields = z.fields; signals = length-set b.signals g x ∙ z.signals; lines = z.lines }

  sized_out : (r : ℕ) (x : Bool) → Sized b (with_out m r x)
  sized_out r x = record { points = z.points; levers = z.levers; fields = z.fields; signals = z.signals; lines = length-set m.out r x ∙ z.lines }

-- After a point was trailed or coupled, which leaves its position: it is where it was

placed_point : (s : State) (p : ℕ) (x : Point) → x.position ≡ (point_at s.board p).position → p < length s.board.points → (d : Option Position) (q : ℕ) → elsewhere d (point_at s.board q).position ≡ false → elsewhere d (point_at (with_point s.board p x) q).position ≡ false
placed_point s p x same lt d q h =
    by_set s.board.points p q x plus_point (λ z. elsewhere d z.position ≡ false) lt
    (λ e. ap (elsewhere d) same ∙ subst (λ z. elsewhere d (point_at s.board z).position ≡ false) e h)
    (λ ne. h)

-- After a field was written: what is held is set, and who guards a signal guards it still

module _ (s : State) (k : Safe s) (r : ℕ) (x : Stage) (l : r < routes s) where
  held_stage : (is_held x ≡ true → is_set s.plan s.board r ≡ true) → (q : ℕ) → is_held (stage_at (with_stage s.board r x) q) ≡ true → is_set s.plan s.board q ≡ true
  held_stage h q t =
      ⊎_elim
      (λ u. subst (λ z. is_set s.plan s.board z ≡ true) (sym u.0) (h u.1))
      (λ u. k.held_set q u.1)
      (from_set s.board.fields r q x Open (λ z. is_held z ≡ true) (field_within s k r l) t)

  served_stage : {g : ℕ} → (v : (q : ℕ) × Served s.plan s.board g q) → (v.0 ≡ r → x ≡ Cleared) → (q : ℕ) × Served s.plan (with_stage s.board r x) g q
  served_stage v h = (v.0, (v.1.0, v.1.1, by_set s.board.fields r v.0 x Open (λ z. z ≡ Cleared) (field_within s k r l) h (λ _. v.1.2), v.1.3))

give_keeps : (r : ℕ) (s : State) → answer_of Give r s ≡ accepted → Safe s → Safe (changed Give r s)
give_keeps r s h k = record {
  ordered = k.ordered;
  sized = sized_out k.sized r true;
  set_out = λ q t. by_set s.block.out r q true false (λ z. z ≡ true) lt (λ _. refl) (λ ne. k.set_out q t);
  out_apart = λ x y w a b.
      ⊎_elim
      (λ u. ⊎_elim (λ v. hostile_apart s.plan x y w (u.0 ∙ sym v.0)) (λ v. met y (subst (λ z. are_hostile s.plan z y ≡ true) u.0 w) v.1) (was y b))
      (λ u.
      ⊎_elim
      (λ v. met x (subst (λ z. are_hostile s.plan z x ≡ true) v.0 (hostile_symmetric s.plan y x ∙ w)) u.1)
      (λ v. k.out_apart x y w u.1 v.1)
      (was y b))
      (was x a);
  set_placed = k.set_placed;
  held_set = k.held_set;
  clear_served = k.clear_served;
}
  where
    p : (r < routes s) × (r < s.block.lines) × (is_out s.block r ≡ false) × (any_out s.block (hostiles_of s.plan r) ≡ false)
    p = give_passed r s h

    lt : r < length s.block.out
    lt = omega (arith, p.1, k.sized.lines)

    met : (q : ℕ) → are_hostile s.plan r q ≡ true → is_out s.block q ≡ true → ⊥
    met q t o = none_of s.block k.sized.lines (hostiles_of s.plan r) p.3 q (hostiles_at s.plan r q (omega (arith, (hostile_known s.plan r q t).1, k.ordered.few.3)) ∙ t) o

    was : (q : ℕ) → is_out (with_out s.block r true) q ≡ true → ((q ≡ r) × (true ≡ true)) ⊎ ((q ≢ r) × (is_out s.block q ≡ true))
    was q o = from_set s.block.out r q true false (λ z. z ≡ true) lt o

throw_keeps : (p : ℕ) (s : State) → answer_of Throw p s ≡ accepted → Safe s → Safe (changed Throw p s)
throw_keeps p s h k = record {
  ordered = k.ordered;
  sized = sized_point k.sized p _;
  set_out = k.set_out;
  out_apart = k.out_apart;
  set_placed = λ r t q m.
      by_set s.board.points p q _ plus_point (λ z. elsewhere (demand_at s.plan r q) z.position ≡ false) lt
      (λ e. undemanded_fits (demand_at s.plan r q) _ (free r t q e))
      (λ ne. k.set_placed r t q m);
  held_set = k.held_set;
  clear_served = λ g c. let v = k.clear_served g c in
      (v.0, (v.1.0, v.1.1, v.1.2, λ q m d. by_set s.board.points p q _ plus_point (λ z. is_trailed z ≡ false) lt (λ _. w.1) (λ ne. v.1.3 q m d)));
}
  where
    w : (p < s.plan.counts.points) × (is_trailed (point_at s.board p) ≡ false) × (is_locked s.plan s.board p ≡ false)
    w = throw_passed p s h

    lt : p < length s.board.points
    lt = point_within s k p w.0

    free : (r : ℕ) → is_set s.plan s.board r ≡ true → (q : ℕ) → q ≡ p → demanded (demand_at s.plan r q) ≡ false
    free r t q e =
        ⊎_elim
        (λ a. absurd (both_ways (is_set s.plan s.board r) a t))
        (λ a. subst (λ z. demanded (demand_at s.plan r z) ≡ false) (sym e) a)
        (and_cases (is_set s.plan s.board r) (demanded (demand_at s.plan r p)) (any_none (claims s.plan s.board p) (routes s) r w.2 (set_parts s.plan s.board r t).0))

trail_keeps : (p : ℕ) (s : State) → answer_of Trail p s ≡ accepted → Safe s → Safe (changed Trail p s)
trail_keeps p s h k = record {
  ordered = k.ordered;
  sized = let z = sized_point k.sized p (trailed_here (point_at s.board p)) in record { points = z.points; levers = z.levers; fields = z.fields; signals = fell_long s.plan s.board p (routes s) ∙ z.signals; lines = z.lines };
  set_out = k.set_out;
  out_apart = k.out_apart;
  set_placed = λ r t q m. placed_point s p _ refl lt (demand_at s.plan r q) q (k.set_placed r t q m);
  held_set = k.held_set;
  clear_served = λ g c.
      let f = fell_clear s.plan s.board p (routes s) g (signal_within s k) c in
      let v = k.clear_served g f.0 in (
        v.0,
        (
          v.1.0,
          v.1.1,
          v.1.2,
          λ q m d.
              by_set s.board.points p q _ plus_point (λ z. is_trailed z ≡ false) lt
              (λ e. absurd (f.1 v.0 (set_parts s.plan s.board v.0 v.1.0).0 (and_from (is_set s.plan s.board v.0) (demanded (demand_at s.plan v.0 p)) v.1.0 (subst (λ z. demanded (demand_at s.plan v.0 z) ≡ true) e d)) v.1.1))
              (λ ne. v.1.3 q m d),
        ),
      );
}
  where
    lt : p < length s.board.points
    lt = point_within s k p (trail_passed p s h)

recouple_keeps : (p : ℕ) (s : State) → answer_of Recouple p s ≡ accepted → Safe s → Safe (changed Recouple p s)
recouple_keeps p s h k = record {
  ordered = k.ordered;
  sized = sized_point k.sized p _;
  set_out = k.set_out;
  out_apart = k.out_apart;
  set_placed = λ r t q m. placed_point s p _ refl lt (demand_at s.plan r q) q (k.set_placed r t q m);
  held_set = k.held_set;
  clear_served = λ g c. let v = k.clear_served g c in
      (v.0, (v.1.0, v.1.1, v.1.2, λ q m d. by_set s.board.points p q _ plus_point (λ z. is_trailed z ≡ false) lt (λ _. refl) (λ ne. v.1.3 q m d)));
}
  where
    lt : p < length s.board.points
    lt = point_within s k p (recouple_passed p s h)

-- two set routes on one lever are one
one_lever : (s : State) → Safe s → (r q : ℕ) → is_set s.plan s.board r ≡ true → is_set s.plan s.board q ≡ true → (route_of s.plan r).lever ≡ (route_of s.plan q).lever → r ≡ q
one_lever s k r q a b e =
    let u = set_parts s.plan s.board r a in
    let v = set_parts s.plan s.board q b in
    k.ordered.apart r q (u.0, v.0, e, thrown_once (lever_of s.plan s.board q) (route_of s.plan r).side (route_of s.plan q).side (subst (λ i. thrown (lever_at s.board i) (route_of s.plan r).side ≡ true) e u.1) v.1)

set_keeps : (r : ℕ) (s : State) → answer_of Set r s ≡ accepted → Safe s → Safe (changed Set r s)
set_keeps r s h k = record {
  ordered = k.ordered;
  sized = sized_lever k.sized x.lever _;
  set_out = λ q t. ⊎_elim (λ e. subst (λ z. is_out s.block z ≡ true) (sym e) p.2) (λ o. k.set_out q o) (was q t);
  out_apart = k.out_apart;
  set_placed = λ q t i m.
      ⊎_elim
      (λ e. subst (λ z. elsewhere (demand_at s.plan z i) (point_at s.board i).position ≡ false) (sym e) (unhindered_fits (demand_at s.plan r i) (point_at s.board i) (lowest_none (hinders_at s.board x) s.plan.counts.points i p.3 m)))
      (λ o. k.set_placed q o i m)
      (was q t);
  held_set = λ q t. still q (k.held_set q t);
  clear_served = λ g c. let v = k.clear_served g c in (v.0, (still v.0 v.1.0, v.1.1, v.1.2, v.1.3));
}
  where
    x : Route
    x = route_of s.plan r

    p : (r < routes s) × (is_normal (lever_of s.plan s.board r) ≡ true) × (is_out s.block r ≡ true) × (obstacle_of s.plan s.board (route_of s.plan r) ≡ None)
    p = set_passed r s h

    lt : x.lever < length s.board.levers
    lt = lever_within s k r p.0

    was : (q : ℕ) → is_set s.plan (set_changed s.plan s.board r) q ≡ true → (q ≡ r) ⊎ (is_set s.plan s.board q ≡ true)
    was q t =
        let w = set_parts s.plan (set_changed s.plan s.board r) q t in
        ⊎_elim
        (λ u. inl (k.ordered.apart q r (w.0, p.0, u.0, thrown_once (toward x.side) (route_of s.plan q).side x.side u.1 (thrown-toward x.side))))
        (λ u. inr (set_from s.plan s.board q w.0 u.1))
        (from_set s.board.levers x.lever (route_of s.plan q).lever (toward x.side) lever.Normal (λ z. thrown z (route_of s.plan q).side ≡ true) lt w.1)

    still : (q : ℕ) → is_set s.plan s.board q ≡ true → is_set s.plan (set_changed s.plan s.board r) q ≡ true
    still q t =
        let w = set_parts s.plan s.board q t in
        set_from s.plan (set_changed s.plan s.board r) q w.0
        (by_set s.board.levers x.lever (route_of s.plan q).lever (toward x.side) lever.Normal (λ z. thrown z (route_of s.plan q).side ≡ true) lt
        (λ e. absurd (both_ways (thrown (lever_of s.plan s.board r) (route_of s.plan q).side) (normal_not_thrown (lever_of s.plan s.board r) (route_of s.plan q).side p.1) (subst (λ i. thrown (lever_at s.board i) (route_of s.plan q).side ≡ true) e w.1)))
        (λ _. w.1))

hold_keeps : (r : ℕ) (s : State) → answer_of Hold r s ≡ accepted → Safe s → Safe (changed Hold r s)
hold_keeps r s h k = record {
  ordered = k.ordered;
  sized = sized_stage k.sized r Held;
  set_out = k.set_out;
  out_apart = k.out_apart;
  set_placed = k.set_placed;
  held_set = held_stage s k r Held p.0 (λ _. p.1);
  clear_served = λ g c. let v = k.clear_served g c in
      served_stage s k r Held p.0 v (λ e. absurd (both_ways (is_held (stage_at s.board r)) p.2 (cleared_held _ (subst (λ z. stage_at s.board z ≡ Cleared) e v.1.2))));
}
  where
    p : (r < routes s) × (is_set s.plan s.board r ≡ true) × (is_held (stage_at s.board r) ≡ false) × (is_spent (stage_at s.board r) ≡ false)
    p = hold_passed r s h

pull_for_keeps : (g : ℕ) (s : State) → g < s.plan.counts.signals → (o : Option ℕ) → set_route_of s.plan s.board g ≡ o → pull_for s.plan s.board g o ≡ accepted → Safe s → Safe (with_board s (pulled_for s.board g o))
pull_for_keeps g s l None e h k = k
pull_for_keeps g s l (Some r) e h k = record {
  ordered = k.ordered;
  sized = sized_stage (sized_arm k.sized g arm.Clear) r Cleared;
  set_out = k.set_out;
  out_apart = k.out_apart;
  set_placed = k.set_placed;
  held_set = held_stage s k r Cleared w.0 (λ _. v.0);
  clear_served = λ x c.
      ⊎_elim
      (λ a. (r, (v.0, eqb-true (route_of s.plan r).signal g v.1 ∙ sym a.0, get_or-set_same s.board.fields r Cleared Open lt, λ i n d. unfailing_coupled (demand_at s.plan r i) (point_at s.board i) (lowest_none (fails_at s.board (route_of s.plan r)) s.plan.counts.points i u.2 n) d)))
      (λ a. served_stage s k r Cleared w.0 (k.clear_served x a.1) (λ _. refl))
      (from_set s.board.signals g x arm.Clear arm.Normal (λ z. is_clear z ≡ true) (arm_within s k g l) c);
}
  where
    w : (r < routes s) × (serves s.plan s.board g r ≡ true)
    w = lowest_some (serves s.plan s.board g) (routes s) r e

    v : (is_set s.plan s.board r ≡ true) × (eqb (route_of s.plan r).signal g ≡ true)
    v = and_parts (is_set s.plan s.board r) (eqb (route_of s.plan r).signal g) w.1

    u : (is_held (stage_at s.board r) ≡ true) × (is_run (stage_at s.board r) ≡ false) × (failure_of s.plan s.board (route_of s.plan r) ≡ None)
    u = pull_for_passed s.plan s.board g r h

    lt : r < length s.board.fields
    lt = field_within s k r w.0

pull_keeps : (g : ℕ) (s : State) → answer_of Pull g s ≡ accepted → Safe s → Safe (changed Pull g s)
pull_keeps g s h k = let p = pull_passed g s h in pull_for_keeps g s p.0 (set_route_of s.plan s.board g) refl p.1 k

restore_keeps : (g : ℕ) (s : State) → answer_of Restore g s ≡ accepted → Safe s → Safe (changed Restore g s)
restore_keeps g s h k = record {
  ordered = k.ordered;
  sized = sized_arm k.sized g arm.Normal;
  set_out = k.set_out;
  out_apart = k.out_apart;
  set_placed = k.set_placed;
  held_set = k.held_set;
  clear_served = λ x c. ⊎_elim (λ a. absurd (both_ways false refl a.1)) (λ a. k.clear_served x a.1) (from_set s.board.signals g x arm.Normal arm.Normal (λ z. is_clear z ≡ true) (arm_within s k g (restore_passed g s h)) c);
}

contact_keeps : (r : ℕ) (s : State) → answer_of Contact r s ≡ accepted → Safe s → Safe (changed Contact r s)
contact_keeps r s h k = record {
  ordered = k.ordered;
  sized = sized_arm (sized_stage k.sized r Run) g (dropped (arm_at s.board g));
  set_out = k.set_out;
  out_apart = k.out_apart;
  set_placed = k.set_placed;
  held_set = held_stage s k r Run p.0 (λ _. k.held_set r (cleared_held _ (is_cleared_lem _ p.1)));
  clear_served = λ x c.
      ⊎_elim
      (λ a. absurd (both_ways (is_clear (dropped (arm_at s.board g))) (dropped-fell (arm_at s.board g)) a.1))
      (λ a. let v = k.clear_served x a.1 in served_stage s k r Run p.0 v (λ e. absurd (a.0 (sym v.1.1 ∙ ap (λ z. (route_of s.plan z).signal) e))))
      (from_set s.board.signals g x (dropped (arm_at s.board g)) arm.Normal (λ z. is_clear z ≡ true) (signal_within s k r p.0) c);
}
  where
    g : ℕ
    g = (route_of s.plan r).signal

    p : (r < routes s) × (is_cleared (stage_at s.board r) ≡ true)
    p = contact_passed r s h

release_keeps : (r : ℕ) (s : State) → answer_of Release r s ≡ accepted → Safe s → Safe (changed Release r s)
release_keeps r s h k = record {
  ordered = k.ordered;
  sized = sized_stage k.sized r x;
  set_out = k.set_out;
  out_apart = k.out_apart;
  set_placed = k.set_placed;
  held_set = held_stage s k r x p.0 (λ h. absurd (both_ways (is_held x) (released_free (stage_at s.board r)) h));
  clear_served = λ g c. let v = k.clear_served g c in
      served_stage s k r x p.0 v (λ e. absurd (both_ways (is_pulled (arm_at s.board (route_of s.plan r).signal)) p.1 (clear_pulled _ (subst (λ z. is_clear (arm_at s.board z) ≡ true) (sym v.1.1 ∙ ap (λ z. (route_of s.plan z).signal) e) c))));
}
  where
    x : Stage
    x = released (stage_at s.board r)

    p : (r < routes s) × (is_pulled (arm_at s.board (route_of s.plan r).signal) ≡ false)
    p = release_passed r s h

normal_keeps : (r : ℕ) (s : State) → answer_of Normal r s ≡ accepted → Safe s → Safe (changed Normal r s)
normal_keeps r s h k = record {
  ordered = k.ordered;
  sized = sized_lever k.sized (route_of s.plan r).lever lever.Normal;
  set_out = λ q t. k.set_out q (was q t);
  out_apart = k.out_apart;
  set_placed = λ q t. k.set_placed q (was q t);
  held_set = held;
  clear_served = λ g c. let v = k.clear_served g c in (v.0, (held v.0 (cleared_held _ v.1.2), v.1.1, v.1.2, v.1.3));
}
  where
    p : (r < routes s) × (is_set s.plan s.board r ≡ true) × (is_held (stage_at s.board r) ≡ false)
    p = normal_passed r s h

    lt : (route_of s.plan r).lever < length s.board.levers
    lt = lever_within s k r p.0

    was : (q : ℕ) → is_set s.plan (normal_changed s.plan s.board r) q ≡ true → is_set s.plan s.board q ≡ true
    was q t =
        let w = set_parts s.plan (normal_changed s.plan s.board r) q t in
        ⊎_elim
        (λ u. absurd (both_ways false refl u.1))
        (λ u. set_from s.plan s.board q w.0 u.1)
        (from_set s.board.levers (route_of s.plan r).lever (route_of s.plan q).lever lever.Normal lever.Normal (λ z. thrown z (route_of s.plan q).side ≡ true) lt w.1)

    held : (q : ℕ) → is_held (stage_at s.board q) ≡ true → is_set s.plan (normal_changed s.plan s.board r) q ≡ true
    held q t =
        let y = k.held_set q t in
        let w = set_parts s.plan s.board q y in
        set_from s.plan (normal_changed s.plan s.board r) q w.0
        (by_set s.board.levers (route_of s.plan r).lever (route_of s.plan q).lever lever.Normal lever.Normal (λ z. thrown z (route_of s.plan q).side ≡ true) lt
        (λ e. absurd (both_ways (is_held (stage_at s.board r)) p.2 (subst (λ z. is_held (stage_at s.board z) ≡ true) (one_lever s k q r y p.1 e) t)))
        (λ _. w.1))

return_keeps : (r : ℕ) (s : State) → answer_of Return r s ≡ accepted → Safe s → Safe (changed Return r s)
return_keeps r s h k = record {
  ordered = k.ordered;
  sized = sized_out (sized_stage k.sized r Open) r false;
  set_out = λ q t. by_set s.block.out r q false false (λ z. z ≡ true) lo (λ e. absurd (both_ways (is_set s.plan s.board r) p.2 (subst (λ z. is_set s.plan s.board z ≡ true) e t))) (λ ne. k.set_out q t);
  out_apart = λ x y w a b. k.out_apart x y w (was x a) (was y b);
  set_placed = k.set_placed;
  held_set = held_stage s k r Open p.0 (λ h. absurd (both_ways false refl h));
  clear_served = λ g c. let v = k.clear_served g c in
      served_stage s k r Open p.0 v (λ e. absurd (both_ways (is_set s.plan s.board r) p.2 (subst (λ z. is_set s.plan s.board z ≡ true) e v.1.0)));
}
  where
    p : (r < routes s) × (r < s.block.lines) × (is_set s.plan s.board r ≡ false) × (is_out s.block r ≡ true)
    p = return_passed r s h

    lo : r < length s.block.out
    lo = omega (arith, p.1, k.sized.lines)

    was : (q : ℕ) → is_out (with_out s.block r false) q ≡ true → is_out s.block q ≡ true
    was q o = ⊎_elim (λ u. absurd (both_ways false refl u.1)) (λ u. u.1) (from_set s.block.out r q false false (λ z. z ≡ true) lo o)

line_keeps : (b : Bool) (s : State) → Safe s → Safe (with_block s (with_whole s.block b))
line_keeps b s k = record {
  ordered = k.ordered;
  sized = record { points = k.sized.points; levers = k.sized.levers; fields = k.sized.fields; signals = k.sized.signals; lines = k.sized.lines };
  set_out = k.set_out;
  out_apart = k.out_apart;
  set_placed = k.set_placed;
  held_set = k.held_set;
  clear_served = k.clear_served;
}

pub keeps : (c : Call) (n : ℕ) (s : State) → answer_of c n s ≡ accepted → Safe s → Safe (changed c n s)
keeps Give n s h k = give_keeps n s h k
keeps Throw n s h k = throw_keeps n s h k
keeps Trail n s h k = trail_keeps n s h k
keeps Recouple n s h k = recouple_keeps n s h k
keeps Set n s h k = set_keeps n s h k
keeps Hold n s h k = hold_keeps n s h k
keeps Pull n s h k = pull_keeps n s h k
keeps Restore n s h k = restore_keeps n s h k
keeps Contact n s h k = contact_keeps n s h k
keeps Release n s h k = release_keeps n s h k
keeps Normal n s h k = normal_keeps n s h k
keeps Return n s h k = return_keeps n s h k
keeps Cut n s h k = line_keeps false s k
keeps Mend n s h k = line_keeps true s k

-- after any call, accepted or refused, and after any entry
after_keeps : (c : Call) (n : ℕ) (s : State) → Safe s → Safe (after c n s)
after_keeps c n s k = go (answer_of c n s) refl
  where
    go : (a : Answer) → answer_of c n s ≡ a → Safe (settled a (changed c n s) s)
    go (Ok _) e = keeps c n s e k
    go (Err _) e = k

pub entry_keeps : (e : Entry) (s : State) → Safe s → Safe (entry_after e s)
entry_keeps e s k = go (call_of e.letter)
  where
    go : (o : Option Call) → Safe (elim o [ Some c ↦ after c e.number s | None ↦ s ])
    go (Some c) = after_keeps c e.number s k
    go None = k

-- At the loading

get_or-same : {A : Type 0} (n i : ℕ) (x : A) → get_or (replicate n x) i x ≡ x
get_or-same n i x = ⊎_elim (λ l. get_or-replicate n i x x l) (λ l. get_or_past (replicate n x) i x (simp length-replicate l)) (cases_lt i n)

pub fresh_safe : (l : Layout) (m : Meaning) → Ordered l → length m.out ≡ m.lines → ((r : ℕ) → is_out m r ≡ false) → Safe (loaded l m)
fresh_safe l m o e h = record {
  ordered = o;
  sized = record { points = refl; levers = refl; fields = refl; signals = refl; lines = e };
  set_out = λ r t. absurd (unset r t);
  out_apart = λ r q w a b. both_ways (is_out m r) (h r) a;
  set_placed = λ r t. absurd (unset r t);
  held_set = λ r t. absurd (both_ways false refl (sym (ap is_held (get_or-same 32 r Open)) ∙ t));
  clear_served = λ g c. absurd (both_ways false refl (sym (ap is_clear (get_or-same 32 g arm.Normal)) ∙ c));
}
  where
    unset : (r : ℕ) → is_set l fresh r ≡ true → ⊥
    unset r t = both_ways false refl (sym (ap (λ z. thrown z (route_of l r).side) (get_or-same 16 (route_of l r).lever lever.Normal)) ∙ (set_parts l fresh r t).1)

pub none_out : (m : Meaning) → length m.out ≡ m.lines → m.lines ≤ 32 → any_out m every_route ≡ false → (r : ℕ) → is_out m r ≡ false
none_out m e few h r =
    ⊎_elim
    (λ l. never (is_out m r) (λ o. none_of m e every_route h r (get_or-replicate 32 r true false (omega arith)) o))
    (λ l. get_or_past m.out r false (omega arith))
    (cases_lt r m.lines)
  where
    never : (b : Bool) → (b ≡ true → ⊥) → b ≡ false
    never true f = absurd (f refl)
    never false f = refl
