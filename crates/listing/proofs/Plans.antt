-- A sheet that is accepted has routes.
use Rattle.std.proofs.Common.{◌≡◌, ℕ, ◌<◌, ◌≤◌, cond, not, ◌&&◌, leb, List, Some, None, Option, refl, ap, arith, leb-true}
use Rattle.std.proofs.lemmas.Bool.{and_parts}
use Rattle.basics.specs.Scan.{lowest}
use Rattle.sheet.proofs.Took.{done_parts, kept, went}
use Rattle.sheet.specs.Bits.{Read, done, fault, field_at, next}
use Rattle.sheet.specs.Decode.{Outcome, accepted, refused, decode, ruled, settled}
use Rattle.sheet.specs.Fields.{count_at, counts_at, edition_at, filling_at, layout_at, routes_at}
use Rattle.sheet.specs.Rules.{has_lever, has_signal, shared}
use Rattle.sheet.specs.declared.fault.Flaw.TheVariants.{CountOutside}
use Rattle.sheet.specs.declared.layout.Counts.{Counts}
use Rattle.sheet.specs.declared.layout.Layout.{Layout}

count_least : (s : List ℕ) (i k least most n : ℕ) (ds : List ℕ) (j : ℕ) → count_at s i k least most ≡ done n ds j → least ≤ n
count_least s i k least most n ds j h =
    let w = went (field_at s i k) (λ n ds j. cond (leb least n && leb n most) (done n ds j) (fault CountOutside i)) n ds j h in
    let g = kept (leb least w.value && leb w.value most) (done w.value w.sheet w.place) CountOutside i n ds j w.rest in
    let e : w.value ≡ n = (done_parts g.1).0 in
    let l : least ≤ w.value = leb-true least w.value (and_parts (leb least w.value) (leb w.value most) g.0).0 in
    omega arith

counts_routes : (s : List ℕ) (i : ℕ) (x : Counts) (ds : List ℕ) (j : ℕ) → counts_at s i ≡ done x ds j → 1 ≤ x.routes
counts_routes s i x ds j h =
    let b = went (count_at s i 6 0 32) (λ p s i. next (count_at s i 6 1 32) (λ g s i. next (count_at s i 5 1 16) (λ v s i. next (count_at s i 6 1 32) (λ n s i. done (record { points = p; signals = g; levers = v; routes = n }) s i)))) x ds j h in
    let c = went (count_at b.sheet b.place 6 1 32) (λ g s i. next (count_at s i 5 1 16) (λ v s i. next (count_at s i 6 1 32) (λ n s i. done (record { points = b.value; signals = g; levers = v; routes = n }) s i))) x ds j b.rest in
    let d = went (count_at c.sheet c.place 5 1 16) (λ v s i. next (count_at s i 6 1 32) (λ n s i. done (record { points = b.value; signals = c.value; levers = v; routes = n }) s i)) x ds j c.rest in
    let e = went (count_at d.sheet d.place 6 1 32) (λ n s i. done (record { points = b.value; signals = c.value; levers = d.value; routes = n }) s i) x ds j d.rest in
    let m = count_least d.sheet d.place 6 1 32 e.value e.sheet e.place e.first in
    let r : e.value ≡ x.routes = ap (λ (y : Counts). y.routes) (done_parts e.rest).0 in
    omega arith

layout_routes : (s : List ℕ) (l : Layout) (ds : List ℕ) (j : ℕ) → layout_at s 0 ≡ done l ds j → 1 ≤ l.counts.routes
layout_routes s l ds j h =
    let e = went (edition_at s 0) (λ _ s i. next (counts_at s i) (λ c s i. next (routes_at c s i) (λ rs s i. next (filling_at s i) (λ _ s i. done (record { counts = c; routes = rs }) s i)))) l ds j h in
    let a = went (counts_at e.sheet e.place) (λ c s i. next (routes_at c s i) (λ rs s i. next (filling_at s i) (λ _ s i. done (record { counts = c; routes = rs }) s i))) l ds j e.rest in
    let b = went (routes_at a.value a.sheet a.place) (λ rs s i. next (filling_at s i) (λ _ s i. done (record { counts = a.value; routes = rs }) s i)) l ds j a.rest in
    let c = went (filling_at b.sheet b.place) (λ _ s i. done (record { counts = a.value; routes = b.value }) s i) l ds j b.rest in
    let m = counts_routes e.sheet e.place a.value a.sheet a.place a.first in
    let r : a.value.routes ≡ l.counts.routes = ap (λ (y : Layout). y.counts.routes) (done_parts c.rest).0 in
    omega arith

-- a refusal with a number at a place, where there is one, else what comes after
abbrev refuse_at : ℕ → Option ℕ → Outcome → Outcome
refuse_at w (Some p) x = refused w p
refuse_at w None x = x

no_refusal : (w : ℕ) (o : Option ℕ) (x : Outcome) (m : Layout) → refuse_at w o x ≡ accepted m → x ≡ accepted m
no_refusal w (Some p) x m h = let z : ◌≡◌ {A = ℕ} 0 1 = cc in absurd (omega arith)
no_refusal w None x m h = h

ruled_same : (l m : Layout) → ruled l ≡ accepted m → l ≡ m
ruled_same l m e =
    let signals : Outcome = refuse_at 9 (lowest (λ g. not (has_signal l g)) l.counts.signals) (accepted l) in
    let levers : Outcome = refuse_at 8 (lowest (λ v. not (has_lever l v)) l.counts.levers) signals in
    let a = no_refusal 7 (lowest (shared l) l.counts.routes) levers m e in
    let b = no_refusal 8 (lowest (λ v. not (has_lever l v)) l.counts.levers) signals m a in
    let c = no_refusal 9 (lowest (λ g. not (has_signal l g)) l.counts.signals) (accepted l) m b in
    cc

settled-routes : (s : List ℕ) (x : Read Layout) (l : Layout) → layout_at s 0 ≡ x → settled x ≡ accepted l → 0 < l.counts.routes
settled-routes s (done m ds j) l e h =
    let r : m.counts.routes ≡ l.counts.routes = ap (λ (y : Layout). y.counts.routes) (ruled_same m l h) in
    let k = layout_routes s m ds j e in
    omega arith
settled-routes s (fault n p) l e h = let z : ◌≡◌ {A = ℕ} 0 1 = cc in absurd (omega arith)

pub has_routes : (s : List ℕ) (l : Layout) → decode s ≡ accepted l → 0 < l.counts.routes
has_routes s l h = settled-routes s (layout_at s 0) l refl h
