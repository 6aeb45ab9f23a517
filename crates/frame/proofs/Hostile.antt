-- Hostile routes, and the set of them that a give is handed.
use Rattle.std.proofs.Common.{◌≡◌, ℕ, ◌<◌, Bool, true, false, ◌&&◌, ◌||◌, eqb, ltb, List, length, get_or, ◌∙◌, ⊎_elim, arith}
use Rattle.std.proofs.lemmas.List.FromFn.{get_or-map-range_with_len}
use Rattle.std.proofs.lemmas.List.{get_or_past}
use Rattle.std.proofs.lemmas.Bool.{and_from, and_parts, both_ways, cases_lt, eq-eqb, ltb-true, or_left, or_right}
use Rattle.basics.proofs.Scans.{any_none}
use Rattle.sheet.specs.Hostility.{are_hostile, hostiles_of, named_at_route, clashing}
use Rattle.sheet.specs.Layouts.{route_in}
use Rattle.sheet.specs.declared.layout.Layout.{Layout}
use Rattle.sheet.proofs.Opponents.{hostile_two, hostile_not}
use Rattle.block.specs.Meaning.{Meaning, is_out, any_out, out_of}

pub hostile_known : (l : Layout) (r q : ℕ) → are_hostile l r q ≡ true → (r < l.counts.routes) × (q < l.counts.routes)
unfolding are_hostile
hostile_known l r q h =
    let p = and_parts (ltb r l.counts.routes && ltb q l.counts.routes) _ h in
    let w = and_parts (ltb r l.counts.routes) (ltb q l.counts.routes) p.0 in
    (ltb-true r l.counts.routes w.0, ltb-true q l.counts.routes w.1)

pub hostile_apart : (l : Layout) (r q : ℕ) → are_hostile l r q ≡ true → r ≡ q → ⊥
hostile_apart l r q h e = both_ways (are_hostile l r q) (hostile_not l r q (λ _ _ ne. ne e)) h

pub hostile_signal : (l : Layout) (r q : ℕ) → r < l.counts.routes → q < l.counts.routes → (r ≡ q → ⊥) → (route_in l.routes r).signal ≡ (route_in l.routes q).signal → are_hostile l r q ≡ true
hostile_signal l r q a b ne e =
    let same = or_left (eqb (route_in l.routes r).signal (route_in l.routes q).signal) ((named_at_route l r q || named_at_route l q r) || clashing (route_in l.routes r) (route_in l.routes q) l.counts.points) (eq-eqb _ _ e) in
    hostile_two l r q a b ne ∙ or_right (eqb (route_in l.routes r).lever (route_in l.routes q).lever) _ same

pub hostiles_at : (l : Layout) (r q : ℕ) → q < 32 → get_or (hostiles_of l r) q false ≡ are_hostile l r q
unfolding hostiles_of
hostiles_at l r q h = get_or-map-range_with_len (are_hostile l r) 0 32 q q false h (omega arith)

-- a consent that is out is one of the lines
pub out_within : (m : Meaning) → length m.out ≡ m.lines → (r : ℕ) → is_out m r ≡ true → r < m.lines
out_within m e r h = ⊎_elim (λ l. omega arith) (λ l. absurd (both_ways (is_out m r) (get_or_past m.out r false l) h)) (cases_lt r (length m.out))

-- where none of a set is out, a route of the set is not
pub none_of : (m : Meaning) → length m.out ≡ m.lines → (xs : List Bool) → any_out m xs ≡ false → (r : ℕ) → get_or xs r false ≡ true → is_out m r ≡ true → ⊥
unfolding any_out
none_of m e xs h r a b = both_ways (out_of m xs r) (any_none (out_of m xs) m.lines r h (out_within m e r b)) (and_from (get_or xs r false) (is_out m r) a b)
