-- The bits of a sheet, and what reading them gives.
use Rattle.std.specs.Prelude.{◌≡◌, ◌≤◌, ℕ, zero, suc, ◌+◌, ◌-◌, ◌*◌, ◌/◌, ◌%◌, ◌^◌, ◌<◌, Bool, cond, List, length, Ok, Err, Result, nat_le, slice_index}
use Rattle.sheet.specs.declared.bits.BitReader.{BitReader}
use Rattle.sheet.specs.declared.fault.SheetFault.{SheetFault}
use Rattle.sheet.specs.declared.fault.Flaw.{Flaw}
use Rattle.sheet.specs.declared.fault.Flaw.TheVariants.{EndsInside}

-- numbers that are bytes
abbrev pub Bytes : List ℕ → Type 0
Bytes s = (i : ℕ) → slice_index s i < 256

-- bit i of a sheet: bit 0 is the top bit of the first byte
abbrev pub bit_of : List ℕ → ℕ → ℕ
bit_of s i = slice_index s (i / 8) / 2 ^ (7 - i % 8) % 2

-- the number that k bits from bit i on make, most significant first
abbrev pub value_of : List ℕ → ℕ → ℕ → ℕ
value_of s i zero = 0
value_of s i (suc k) = value_of s i k * 2 + bit_of s (i + k)

-- the sheet has all of k bits from bit i on
abbrev pub whole : List ℕ → ℕ → ℕ → Bool
whole s i k = nat_le (i + k) (8 * length s)

-- what reading gives: a value, with the sheet and the bit where reading goes on, or a fault and its place
pub data Read (A : Type 0) : Type 0 where
  done : A → List ℕ → ℕ → Read A
  fault : Flaw → ℕ → Read A

-- reading goes on where there is no fault
abbrev pub next : {A B : Type 0} → Read A → (A → List ℕ → ℕ → Read B) → Read B
next (done a s i) f = f a s i
next (fault w p) f = fault w p

-- what a reading method answers, with the sheet and the bit where it leaves the reader
abbrev pub told : {A : Type 0} → Result A SheetFault → List ℕ → ℕ → Read A
told (Ok a) s i = done a s i
told (Err e) s i = fault e.flaw e.place

-- what a reader b answers, and the reader that it is then: what is read of its sheet from its bit on, and at most k bits further
pub record Reads {A : Type 0} (b : BitReader) (answer : Result A SheetFault) (b' : BitReader) (reading : List ℕ → ℕ → Read A) (k : ℕ) : Type 0 where
  pub value : told answer b'.bytes.now b'.at ≡ reading b.bytes.now b.at
  pub near : b'.at ≤ b.at + k

-- a field of k bits at bit i
abbrev pub field_at : List ℕ → ℕ → ℕ → Read ℕ
field_at s i k = cond (whole s i k) (done (value_of s i k) s (i + k)) (fault EndsInside i)
