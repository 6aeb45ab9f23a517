-- The number that some bits make, bit by bit.
use Rattle.std.proofs.Common.{ℕ, zero, suc, ◌+◌, ◌-◌, ◌/◌, ◌%◌, ◌^◌, ◌<◌, ◌≤◌, List, get_or, arith, pow_mono}
use native.Mathlib.Nat.{two-pow-succ}
use Rattle.std.proofs.lemmas.Nat.{mod_below}
use Rattle.sheet.specs.Bits.{bit_of, value_of}

pub bit_lt : (s : List ℕ) (i : ℕ) → bit_of s i < 2
bit_lt s i = mod_below (get_or s (i / 8) 0 / 2 ^ (7 - i % 8)) 2 (omega arith)

pub value_lt : (s : List ℕ) (i k : ℕ) → value_of s i k < 2 ^ k
value_lt s i zero = omega arith
value_lt s i (suc k) = omega (arith, value_lt s i k, bit_lt s (i + k), two-pow-succ k)

-- a field of at most eight bits is a byte
pub value_fits : (s : List ℕ) (i k : ℕ) → k ≤ 8 → value_of s i k < 256
value_fits s i k h = omega (arith, value_lt s i k, pow_mono {i = k} {j = 8} h)
