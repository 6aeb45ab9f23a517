-- The sheet of a plan: its length, and that writing its bits gives its bytes.
use Rattle.std.proofs.Common.{◌≡◌, ℕ, zero, suc, ◌+◌, ◌-◌, ◌*◌, ◌/◌, ◌≤◌, false, List, [], ◌++◌, length, get_or, drop, replicate, None, sym, refl, ap, ◌∙◌, subst, mul_assoc, suc-mul, mul-le-mul, mul-suc, arith}
use Rattle.std.proofs.lemmas.List.{length-append, length-replicate}
use Rattle.sheet.specs.Codes.{side_code, release_code, demand_code, flag_code}
use Rattle.sheet.specs.Encode.{bits_of, each, head_bits, demand_bits, named_bits, route_bits, routes_bits, encode, size_of, filled, sheet_of}
use Rattle.sheet.specs.Layouts.{route_in}
use Rattle.sheet.specs.Valid.{Few}
use Rattle.sheet.specs.Writing.{put, Wrote}
use Rattle.sheet.specs.declared.bit_writer.BitWriter.{BitWriter}
use Rattle.sheet.specs.declared.layout.Counts.{Counts}
use Rattle.sheet.specs.declared.layout.Route.{Route}
use Rattle.sheet.specs.declared.layout.Layout.{Layout}
use Rattle.sheet.proofs.Puts.{wrote_append, length_route}
use Rattle.sheet.proofs.Packing.{Binary, binary_append, binary_bits, binary_each, binary_zeros, put-pack, length-pack}

pub wrote_filled : {w w₁ w₂ : BitWriter} (xs : List ℕ) → w.at ≡ 0 → Wrote w w₁ xs → Wrote w₁ w₂ (replicate ((w₁.at + 7) / 8 * 8 - w₁.at) 0) → Wrote w w₂ (filled xs)
wrote_filled {w} {w₁} {w₂} xs z a b =
    let e : w₁.at ≡ length xs = omega (arith, a.after) in
    let P : ℕ → Type 0 = λ m. Wrote w₁ w₂ (replicate ((m + 7) / 8 * 8 - m) 0) in
    wrote_append a (subst P e b)

pub length-filled : (xs : List ℕ) → length (filled xs) ≡ 8 * ((length xs + 7) / 8)
length-filled xs =
    omega (arith, length-append xs (replicate ((length xs + 7) / 8 * 8 - length xs) 0), length-replicate {A = ℕ} ((length xs + 7) / 8 * 8 - length xs) 0)

binary_route : (c : Counts) (x : Route) (r : ℕ) → Binary (route_bits c x r)
binary_route c x r =
    let f = each (named_bits x.named) (c.routes - (r + 1)) (r + 1) in
    let e = each (demand_bits x.demands) c.points 0 ++ f in
    let d = bits_of 1 (release_code x.release) ++ e in
    let g = bits_of 5 x.signal ++ d in
    let a = bits_of 1 (side_code x.side) ++ g in
    binary_append (bits_of 4 x.lever) a (binary_bits 4 x.lever)
    (binary_append (bits_of 1 (side_code x.side)) g (binary_bits 1 (side_code x.side))
    (binary_append (bits_of 5 x.signal) d (binary_bits 5 x.signal)
    (binary_append (bits_of 1 (release_code x.release)) e (binary_bits 1 (release_code x.release))
    (binary_append (each (demand_bits x.demands) c.points 0) f (binary_each (demand_bits x.demands) c.points 0 (λ j. binary_bits 2 (demand_code (get_or x.demands j None))))
    (binary_each (named_bits x.named) (c.routes - (r + 1)) (r + 1) (λ j. binary_bits 1 (flag_code (get_or x.named j false))))))))

binary_head : (c : Counts) → Binary (head_bits c)
binary_head c =
    let d = bits_of 6 c.routes in
    let v = bits_of 5 c.levers ++ d in
    let b = bits_of 6 c.signals ++ v in
    let a = bits_of 6 c.points ++ b in
    binary_append (bits_of 4 1) a (binary_bits 4 1)
    (binary_append (bits_of 6 c.points) b (binary_bits 6 c.points)
    (binary_append (bits_of 6 c.signals) v (binary_bits 6 c.signals)
    (binary_append (bits_of 5 c.levers) d (binary_bits 5 c.levers) (binary_bits 6 c.routes))))

binary_routes : (l : Layout) → Binary (routes_bits l)
binary_routes l = binary_each (λ r. route_bits l.counts (route_in l.routes r) r) l.counts.routes 0 (λ r. binary_route l.counts (route_in l.routes r) r)

binary_encode : (l : Layout) → Binary (encode l)
unfolding encode
binary_encode l = binary_append (head_bits l.counts) (routes_bits l) (binary_head l.counts) (binary_routes l)

binary_sheet : (l : Layout) → Binary (filled (encode l))
binary_sheet l =
    let n = length (encode l) in
    binary_append (encode l) (replicate ((n + 7) / 8 * 8 - n) 0) (binary_encode l) (binary_zeros ((n + 7) / 8 * 8 - n))

pub length-encode : (l : Layout) → length (encode l) ≡ 27 + length (routes_bits l)
unfolding encode
length-encode l = omega arith

triangle : (m : ℕ) → suc m * (suc m - 1) ≡ m * (m - 1) + 2 * m
triangle zero = refl
triangle (suc j) =
    let a : suc (suc j) - 1 ≡ suc j = omega arith in
    let b : suc j - 1 ≡ j = omega arith in
    rw (a, b) (omega (arith, suc-mul (suc j) (suc j), mul-suc (suc j) j))

-- twice the bits of the last m routes: each has 11 bits and 2 a point, and a flag for each route above it
length_last : (l : Layout) (m k : ℕ) → k + m ≡ l.counts.routes
    → 2 * length (each (λ r. route_bits l.counts (route_in l.routes r) r) m k) ≡ 22 * m + 4 * (m * l.counts.points) + m * (m - 1)
length_last l zero k h = omega arith
length_last l (suc m) k h =
    let item : ℕ → List ℕ = λ r. route_bits l.counts (route_in l.routes r) r in
    let a = length-append (item k) (each item m (k + 1)) in
    let b = length_route l.counts (route_in l.routes k) k in
    let e = length_last l m (k + 1) (omega arith) in
    let p = suc-mul m l.counts.points in
    let t = triangle m in
    omega arith

pub length_is_size : (l : Layout) → length (encode l) ≡ size_of l.counts
length_is_size l =
    let n = l.counts.routes in
    omega (arith, length-encode l, length_last l n 0 (omega arith), mul_assoc 2 n l.counts.points)

pub size_small : (c : Counts) → Few c → size_of c ≤ 2923
size_small c few =
    let n = c.routes in
    let p = c.points in
    let a : n * p ≤ 32 * 32 = mul-le-mul few.3 few.0 in
    let b : n - 1 ≤ 31 = omega (arith, few.3) in
    let d : n * (n - 1) ≤ 32 * 31 = mul-le-mul few.3 b in
    omega (arith, mul_assoc 2 n p, few.3)

pub length_sheet : (l : Layout) → length (sheet_of l) ≡ (length (encode l) + 7) / 8
unfolding sheet_of
length_sheet l = length-pack (filled (encode l)) ((length (encode l) + 7) / 8) (length-filled (encode l))

pub sheet_written : {w w' : BitWriter} (l : Layout) → w.at ≡ 0 → (length (encode l) + 7) / 8 ≤ length w.out.now → Wrote w w' (filled (encode l))
    → w'.out.now ≡ sheet_of l ++ drop (length (sheet_of l)) w.out.now
unfolding sheet_of
sheet_written {w} {w'} l z r x =
    let k = (length (encode l) + 7) / 8 in
    let o = w.out.now in
    let p = put-pack (filled (encode l)) [] o 0 k refl (binary_sheet l) (length-filled (encode l)) r in
    x.bytes ∙ (ap (λ m. put o m (filled (encode l))) z ∙ (p ∙ ap (λ m. sheet_of l ++ drop m o) (sym (length_sheet l))))
