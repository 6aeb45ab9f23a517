-- What writing a plan answers and leaves, and, for the parts of the writer, what they have written.
use Rattle.std.specs.Prelude.{◌≡◌, ℕ, ◌+◌, ◌*◌, ◌/◌, ◌%◌, cond, List, [], ◌∷◌, ◌++◌, length, drop, Ok, Err, Result, ◌≤◌, ◌==◌, nat_le, slice_index, slice_set}
use Rattle.sheet.specs.Faults.{number_of}
use Rattle.sheet.specs.Encode.{sheet_of}
use Rattle.sheet.specs.declared.bit_writer.BitWriter.{BitWriter}
use Rattle.sheet.specs.declared.fault.SheetFault.{SheetFault}
use Rattle.sheet.specs.declared.fault.Flaw.TheVariants.{BlankPlan, NoRoom}
use Rattle.sheet.specs.declared.layout.Layout.{Layout}

-- the length of the sheet, or a refusal's number and place; and the buffer after it
pub data Written : Type 0 where
  wrote : ℕ → List ℕ → Written
  withheld : ℕ → ℕ → List ℕ → Written

-- a blank plan is refused first, then a buffer that is too short; else the sheet stands in front, and the rest is left
abbrev pub writing : Layout → List ℕ → Written
writing l buffer =
    cond (l.counts.routes == 0) (withheld (number_of BlankPlan) 0 buffer)
    (cond (nat_le (length (sheet_of l)) (length buffer))
    (wrote (length (sheet_of l)) (sheet_of l ++ drop (length (sheet_of l)) buffer))
    (withheld (number_of NoRoom) 0 buffer))

-- what the writer answers, with the buffer that it leaves
abbrev pub written : Result ℕ SheetFault → List ℕ → Written
written (Ok n) buffer = wrote n buffer
written (Err e) buffer = withheld (number_of e.flaw) e.place buffer

-- bytes after bits were pushed in from bit n on: a byte moves up by one for each
abbrev pub put : List ℕ → ℕ → List ℕ → List ℕ
put bytes n [] = bytes
put bytes n (b ∷ bs) = put (slice_set bytes (n / 8) (slice_index bytes (n / 8) % 128 * 2 + b)) (n + 1) bs

-- a writer has room for n bits more, and has not come far
abbrev pub HasRoom : BitWriter → ℕ → Type 0
HasRoom w n = (w.at + n ≤ 8 * length w.out.now) × (w.at + n ≤ 4000)

-- w' is the writer w after it has written the bits xs, over the same lender's buffer
pub record Wrote (w w' : BitWriter) (xs : List ℕ) : Type 0 where
  pub bytes : w'.out.now ≡ put w.out.now w.at xs
  pub after : w'.at ≡ w.at + length xs
  pub size : length w'.out.now ≡ length w.out.now
  pub lender : w'.out.ghost_name ≡ w.out.ghost_name
