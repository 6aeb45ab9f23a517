-- The fields of a sheet, each at bit i: first whether it is whole, then whether its value is one that it may have.
use Rattle.std.specs.Prelude.{ℕ, zero, suc, ◌+◌, ◌-◌, ◌*◌, ◌/◌, Bool, false, cond, ◌&&◌, List, length, replicate, Some, None, Option, ◌==◌, nat_le, nat_lt, slice_set}
use Rattle.sheet.specs.Bits.{Read, done, fault, next, bit_of, field_at}
use Rattle.sheet.specs.Codes.{side_of, release_of, demanded_by, flag_of}
use Rattle.sheet.specs.Layouts.{no_route}
use Rattle.sheet.specs.declared.fault.Flaw.TheVariants.{WrongEdition, CountOutside, NumberTooHigh, BadPointCode, BadFilling}
use Rattle.sheet.specs.declared.layout.Side.{Side}
use Rattle.sheet.specs.declared.layout.Release.{Release}
use Rattle.sheet.specs.declared.layout.Position.{Position}
use Rattle.sheet.specs.declared.layout.Route.{Route}
use Rattle.sheet.specs.declared.layout.Counts.{Counts}
use Rattle.sheet.specs.declared.layout.Layout.{Layout}

abbrev pub edition_at : List ℕ → ℕ → Read (Unit {0})
edition_at s i = next (field_at s i 4) (λ e s j. cond (e == 1) (done tt s j) (fault WrongEdition i))

-- a count of k bits, from least to most
abbrev pub count_at : List ℕ → ℕ → ℕ → ℕ → ℕ → Read ℕ
count_at s i k least most = next (field_at s i k) (λ n s j. cond (nat_le least n && nat_le n most) (done n s j) (fault CountOutside i))

-- the number of a lever or a signal, of k bits, below limit
abbrev pub number_at : List ℕ → ℕ → ℕ → ℕ → Read ℕ
number_at s i k limit = next (field_at s i k) (λ n s j. cond (nat_lt n limit) (done n s j) (fault NumberTooHigh i))

-- what a code stands for; one that stands for nothing is a fault where the code begins
abbrev pub meant : {A : Type 0} → Option A → List ℕ → ℕ → ℕ → Read A
meant (Some a) s i j = done a s j
meant None s i j = fault BadPointCode i

-- a field of k bits that is a code
abbrev pub coded_at : {A : Type 0} → ℕ → (ℕ → Option A) → List ℕ → ℕ → Read A
coded_at k value s i = next (field_at s i k) (λ c s j. meant (value c) s i j)

abbrev pub side_at : List ℕ → ℕ → Read Side
side_at = coded_at 1 side_of

abbrev pub release_at : List ℕ → ℕ → Read Release
release_at = coded_at 1 release_of

abbrev pub demand_at : List ℕ → ℕ → Read (Option Position)
demand_at = coded_at 2 demanded_by

abbrev pub flag_at : List ℕ → ℕ → Read Bool
flag_at = coded_at 1 flag_of

-- m items, one after the other, into the places of a row from place k on
abbrev pub fill : {A : Type 0} → (ℕ → List ℕ → ℕ → Read A) → List ℕ → ℕ → ℕ → ℕ → List A → Read (List A)
fill one s i zero k row = done row s i
fill one s i (suc m) k row = next (one k s i) (λ a s i. fill one s i m (k + 1) (slice_set row k a))

-- the head, after the edition: points, signals, route levers, routes
abbrev pub counts_at : List ℕ → ℕ → Read Counts
counts_at s i =
    next (count_at s i 6 0 32) (λ p s i.
    next (count_at s i 6 1 32) (λ g s i.
    next (count_at s i 5 1 16) (λ v s i.
    next (count_at s i 6 1 32) (λ n s i.
    done (record { points = p; signals = g; levers = v; routes = n }) s i))))

-- a row with a code of w bits at each place from k up to n, and a blank at the others
abbrev pub row_at : {A : Type 0} → ℕ → (ℕ → Option A) → A → ℕ → ℕ → List ℕ → ℕ → Read (List A)
row_at w value blank k n s i = fill (λ _. coded_at w value) s i (n - k) k (replicate 32 blank)

-- a demand of each of p points
abbrev pub demands_at : ℕ → List ℕ → ℕ → Read (List (Option Position))
demands_at p = row_at 2 demanded_by None 0 p

-- for each of n routes that is higher than r, whether the pair is named hostile
abbrev pub named_at : ℕ → ℕ → List ℕ → ℕ → Read (List Bool)
named_at n r = row_at 1 flag_of false (r + 1) n

-- route r
abbrev pub route_at : Counts → ℕ → List ℕ → ℕ → Read Route
route_at c r s i =
    next (number_at s i 4 c.levers) (λ lever s i.
    next (side_at s i) (λ side s i.
    next (number_at s i 5 c.signals) (λ signal s i.
    next (release_at s i) (λ release s i.
    next (demands_at c.points s i) (λ demands s i.
    next (named_at c.routes r s i) (λ named s i.
    done (record { lever = lever; side = side; signal = signal; release = release; demands = demands; named = named }) s i))))))

abbrev pub routes_at : Counts → List ℕ → ℕ → Read (List Route)
routes_at c s i = fill (route_at c) s i c.routes 0 (replicate 32 no_route)

-- m filling bits from bit i on are zeros, and no byte follows them
abbrev pub zeros_at : List ℕ → ℕ → ℕ → Read (Unit {0})
zeros_at s i zero = cond (nat_lt (i / 8) (length s)) (fault BadFilling i) (done tt s i)
zeros_at s i (suc m) = cond (bit_of s i == 0) (zeros_at s (i + 1) m) (fault BadFilling i)

-- zeros up to a whole byte
abbrev pub filling_at : List ℕ → ℕ → Read (Unit {0})
filling_at s i = zeros_at s i ((i + 7) / 8 * 8 - i)

-- the whole sheet: head, routes, filling
abbrev pub layout_at : List ℕ → ℕ → Read Layout
layout_at s i =
    next (edition_at s i) (λ _ s i.
    next (counts_at s i) (λ c s i.
    next (routes_at c s i) (λ rs s i.
    next (filling_at s i) (λ _ s i.
    done (record { counts = c; routes = rs }) s i))))
