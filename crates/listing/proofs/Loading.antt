-- A plan with routes is accepted over a fresh block.
use Rattle.std.proofs.Common.{◌≡◌, ℕ, ◌<◌, ◌≤◌, false, eqb, ltb, List, take, refl, ◌∙◌, arith, lit≤}
use Rattle.std.proofs.lemmas.Bool.{le-ltb, ne_eqb}
use Rattle.sheet.specs.Layouts.{blank_layout}
use Rattle.sheet.specs.declared.layout.Layout.{Layout}
use Rattle.block.specs.Meaning.{any_out, fresh_block}
use Rattle.board.specs.Answers.{Answer, accepted}
use Rattle.board.specs.Boards.{fresh}
use Rattle.frame.proofs.GoesOn.{stands_each-noted}
use Rattle.frame.specs.Calls.{State, every_route, load_answer}
use Rattle.frame.specs.Runs.{duty_noted}
use Rattle.frame.specs.declared.entry.Entry.{Entry}
use Rattle.listing.specs.Listing.{LawfulListing, calls_in, worked}
use Rattle.listing.proofs.Plans.{has_routes}

none_out : any_out (fresh_block 32) every_route ≡ false
unfolding any_out
none_out = refl

loads : (l : Layout) (s : State) → 0 < l.counts.routes → l.counts.routes ≤ 32 → s.plan ≡ blank_layout → s.block ≡ fresh_block 32 → load_answer l s ≡ accepted
loads l s some few p b =
    let n : eqb l.counts.routes 0 ≡ false = ne_eqb l.counts.routes 0 (λ z. omega arith) in
    let m : ltb 32 l.counts.routes ≡ false = le-ltb 32 l.counts.routes few in
    rw (p, b, n, m, none_out)

-- so a duty on a new frame works its entries
pub serves : (l : Layout) (s : State) (a : Answer) (es noted : List Entry) → 0 < l.counts.routes → l.counts.routes ≤ 32 → s.plan ≡ blank_layout → s.block ≡ fresh_block 32
    → a ≡ load_answer l s → noted ≡ duty_noted a l s es → noted ≡ worked l es
serves l s a es noted some few p b e n = let t : a ≡ accepted = e ∙ loads l s some few p b in n ∙ rw (t, b)

-- and is lawful
pub lawful_listing_lem : (input : List ℕ) → LawfulListing input
lawful_listing_lem input sheet p h d =
    stands_each-noted p (record { plan = blank_layout; board = fresh; block = fresh_block 32 }) (record { some = lit≤ tt; few = lit≤ tt; each = refl })
    (loads p.layout (record { plan = blank_layout; board = fresh; block = fresh_block 32 }) (has_routes sheet p.layout d) p.few.3 refl refl)
    (take 1024 (calls_in input)) (worked p.layout (take 1024 (calls_in input))) refl
