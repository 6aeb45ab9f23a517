-- The sheet of a plan: the layout the other way round.
use Rattle.std.specs.Prelude.{ℕ, zero, suc, ◌+◌, ◌-◌, ◌*◌, ◌/◌, ◌%◌, ◌^◌, Bool, false, List, [], ◌∷◌, ◌++◌, length, replicate, None, Option, slice_index_or}
use Rattle.std.specs.List.{flat_map}
use Rattle.sheet.specs.Codes.{side_code, release_code, demand_code, flag_code}
use Rattle.sheet.specs.Layouts.{route_in}
use Rattle.sheet.specs.declared.layout.Position.{Position}
use Rattle.sheet.specs.declared.layout.Route.{Route}
use Rattle.sheet.specs.declared.layout.Counts.{Counts}
use Rattle.sheet.specs.declared.layout.Layout.{Layout}

-- the k low bits of v, most significant first
abbrev pub bits_of : ℕ → ℕ → List ℕ
bits_of zero v = []
bits_of (suc k) v = v / 2 ^ k % 2 ∷ bits_of k v

-- the codes of a row, each of w bits
abbrev pub codes_bits : {A : Type 0} → ℕ → (A → ℕ) → List A → List ℕ
codes_bits w code xs = flat_map (λ x. bits_of w (code x)) xs

-- the bits of m items from item k on
abbrev pub each : (ℕ → List ℕ) → ℕ → ℕ → List ℕ
each f zero k = []
each f (suc m) k = f k ++ each f m (k + 1)

abbrev pub counts_bits : Counts → List ℕ
counts_bits c = bits_of 6 c.points ++ (bits_of 6 c.signals ++ (bits_of 5 c.levers ++ bits_of 6 c.routes))

-- edition 1 and the four counts
abbrev pub head_bits : Counts → List ℕ
head_bits c = bits_of 4 1 ++ counts_bits c

abbrev pub demand_bits : List (Option Position) → ℕ → List ℕ
demand_bits row p = bits_of 2 (demand_code (slice_index_or row p None))

abbrev pub named_bits : List Bool → ℕ → List ℕ
named_bits row q = bits_of 1 (flag_code (slice_index_or row q false))

-- route r
abbrev pub route_bits : Counts → Route → ℕ → List ℕ
route_bits c x r =
    bits_of 4 x.lever ++ (bits_of 1 (side_code x.side) ++ (bits_of 5 x.signal ++ (bits_of 1 (release_code x.release) ++
    (each (demand_bits x.demands) c.points 0 ++
    each (named_bits x.named) (c.routes - (r + 1)) (r + 1)))))

abbrev pub routes_bits : Layout → List ℕ
routes_bits l = each (λ r. route_bits l.counts (route_in l.routes r) r) l.counts.routes 0

unfoldable pub encode : Layout → List ℕ
encode l = head_bits l.counts ++ routes_bits l

-- how many bits that is
abbrev pub size_of : Counts → ℕ
size_of c = 27 + 11 * c.routes + 2 * c.routes * c.points + c.routes * (c.routes - 1) / 2

-- filled up with zeros to whole bytes
abbrev pub filled : List ℕ → List ℕ
filled xs = xs ++ replicate ((length xs + 7) / 8 * 8 - length xs) 0

-- eight bits make a byte, and fewer make none
abbrev pub pack : List ℕ → List ℕ
pack [] = []
pack (a ∷ []) = []
pack (a ∷ b ∷ []) = []
pack (a ∷ b ∷ c ∷ []) = []
pack (a ∷ b ∷ c ∷ d ∷ []) = []
pack (a ∷ b ∷ c ∷ d ∷ e ∷ []) = []
pack (a ∷ b ∷ c ∷ d ∷ e ∷ f ∷ []) = []
pack (a ∷ b ∷ c ∷ d ∷ e ∷ f ∷ g ∷ []) = []
pack (a ∷ b ∷ c ∷ d ∷ e ∷ f ∷ g ∷ h ∷ xs) =
    (a * 128 + b * 64 + c * 32 + d * 16 + e * 8 + f * 4 + g * 2 + h) ∷ pack xs

-- the sheet of a plan
unfoldable pub sheet_of : Layout → List ℕ
sheet_of l = pack (filled (encode l))
