-- Bits that are written one after the other.
use Rattle.std.proofs.Common.{◌≡◌, ℕ, zero, suc, ◌+◌, ◌-◌, ◌*◌, ◌/◌, ◌%◌, ◌^◌, ◌<◌, ◌≤◌, List, [], ◌∷◌, ◌++◌, length, get_or, set, take, drop, replicate, sym, refl, ap, ◌∙◌, add-zero, suc-mul, arith}
use native.Mathlib.Nat.{zero-div}
use Rattle.std.proofs.lemmas.List.{length-append, drop_more, at_drop_more}
use Rattle.sheet.specs.Encode.{bits_of, codes_bits, each, demand_bits, named_bits, route_bits}
use Rattle.sheet.specs.Writing.{put, HasRoom, Wrote}
use Rattle.sheet.specs.declared.bit_writer.BitWriter.{BitWriter}
use Rattle.sheet.specs.declared.layout.Counts.{Counts}
use Rattle.sheet.specs.declared.layout.Route.{Route}

-- the top bit apart
pub bits_more : (k v : ℕ) → 0 < k → bits_of k v ≡ (v / 2 ^ (k - 1) % 2 ∷ []) ++ bits_of (k - 1) v
bits_more zero v h = absurd (omega arith)
bits_more (suc j) v h = let e : suc j - 1 ≡ j = omega arith in rw e

-- the bits of zero
pub bits_zero : (k : ℕ) → bits_of k 0 ≡ replicate k 0
bits_zero zero = refl
bits_zero (suc k) = rw (zero-div, bits_zero k)

pub put-append : (out : List ℕ) (n : ℕ) (xs ys : List ℕ) → put out n (xs ++ ys) ≡ put (put out n xs) (n + length xs) ys
put-append out n [] ys = rw add-zero
put-append out n (x ∷ xs) ys =
    let e : n + length (x ∷ xs) ≡ (n + 1) + length xs = omega arith in
    rw (e, put-append (set out (n / 8) (get_or out (n / 8) 0 % 128 * 2 + x)) (n + 1) xs ys)

pub length-bits : (k v : ℕ) → length (bits_of k v) ≡ k
length-bits zero v = refl
length-bits (suc k) v = ap suc (length-bits k v)

pub wrote_append : {w w' w'' : BitWriter} {xs ys : List ℕ} → Wrote w w' xs → Wrote w' w'' ys → Wrote w w'' (xs ++ ys)
wrote_append {w} {w'} {w''} {xs} {ys} a b =
    let e = put-append w.out.now w.at xs ys in
    record {
      bytes = b.bytes ∙ (cc (a.bytes, a.after));
      after = omega (arith, a.after, b.after, length-append xs ys);
      size = b.size ∙ a.size;
      lender = b.lender ∙ a.lender;
    }

-- a writing on its way: a writer that was w₀ is w now, and of all the bits the rest is to be written
pub record Going (w₀ w : BitWriter) (rest all : List ℕ) : Type 0 where
  pub bytes : put w.out.now w.at rest ≡ put w₀.out.now w₀.at all
  pub after : w.at + length rest ≡ w₀.at + length all
  pub size : length w.out.now ≡ length w₀.out.now
  pub lender : w.out.ghost_name ≡ w₀.out.ghost_name

pub going_more : {w₀ w w' : BitWriter} {xs rest all : List ℕ} → Going w₀ w (xs ++ rest) all → Wrote w w' xs → Going w₀ w' rest all
going_more {w₀} {w} {w'} {xs} {rest} {all} g x =
    let e = put-append w.out.now w.at xs rest in
    record {
      bytes = (cc (g.bytes, x.bytes, x.after));
      after = omega (arith, g.after, x.after, length-append xs rest);
      size = x.size ∙ g.size;
      lender = x.lender ∙ g.lender;
    }

-- room for all of it is room for what comes first of the rest
pub room_more : {w₀ w : BitWriter} {all : List ℕ} (xs rest : List ℕ) → Going w₀ w (xs ++ rest) all → HasRoom w₀ (length all) → HasRoom w (length xs)
room_more {w₀} {w} {all} xs rest g h = let e = length-append xs rest in (omega (arith, g.after, g.size, h.0), omega (arith, g.after, h.1))

pub each_more : (f : ℕ → List ℕ) (n k : ℕ) → k < n → each f (n - k) k ≡ f k ++ each f (n - (k + 1)) (k + 1)
each_more f n k h = let s : n - k ≡ suc (n - (k + 1)) = omega arith in rw s

-- the first code of the rest of a row apart
pub codes_more : {A : Type 0} (w : ℕ) (code : A → ℕ) (xs : List A) (i : ℕ) (x : A) → i < length xs → x ≡ get_or xs i x
    → codes_bits w code (drop i xs) ≡ bits_of w (code x) ++ codes_bits w code (drop (i + 1) xs)
codes_more w code xs i x h e = at_drop_more (codes_bits w code) xs i x h ∙ ap (λ y. bits_of w (code y) ++ codes_bits w code (drop (i + 1) xs)) (sym e)

-- the codes of a part of a row, place by place
pub codes_each : {A : Type 0} (w : ℕ) (code : A → ℕ) (d : A) (row : List A) (m k : ℕ) → k + m ≤ length row
    → each (λ t. bits_of w (code (get_or row t d))) m k ≡ codes_bits w code (take m (drop k row))
codes_each w code d row zero k h = refl
codes_each w code d row (suc m) k h =
    let e = drop_more row k d (omega arith) in
    rw (e, codes_each w code d row m (k + 1) (omega arith))

-- items of one width
pub length-each : (f : ℕ → List ℕ) (w m k : ℕ) → ((j : ℕ) → length (f j) ≡ w) → length (each f m k) ≡ m * w
length-each f w zero k h = omega arith
length-each f w (suc m) k h = omega (arith, length-append (f k) (each f m (k + 1)), h k, length-each f w m (k + 1) h, suc-mul m w)

pub length_route : (c : Counts) (x : Route) (r : ℕ) → length (route_bits c x r) ≡ 11 + 2 * c.points + (c.routes - (r + 1))
length_route c x r =
    let a = length-each (demand_bits x.demands) 2 c.points 0 (λ j. refl) in
    let b = length-each (named_bits x.named) 1 (c.routes - (r + 1)) (r + 1) (λ j. refl) in
    omega (arith, length-append (each (demand_bits x.demands) c.points 0) (each (named_bits x.named) (c.routes - (r + 1)) (r + 1)))
