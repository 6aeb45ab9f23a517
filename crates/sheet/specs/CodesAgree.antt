-- That codes and values agree. Proofs, and no definitions: they stand here and not in proofs/, since the laws in src/coded.rt, which cite
-- them, can cite specs/ alone.
use Rattle.std.specs.Prelude.{◌≡◌, ℕ, zero, suc, ◌<◌, Bool, true, false, Some, None, Option, refl}
use Rattle.std.proofs.Common.{arith}
use Rattle.sheet.specs.Codes.{Agree, demand_code, demanded_by, flag_code, flag_of, release_code, release_of, side_code, side_of}
use Rattle.sheet.specs.declared.layout.Side.{Side}
use Rattle.sheet.specs.declared.layout.Side.TheVariants.{Up, Down}
use Rattle.sheet.specs.declared.layout.Release.{Release}
use Rattle.sheet.specs.declared.layout.Release.TheVariants.{Station, Train}
use Rattle.sheet.specs.declared.layout.Position.{Position}
use Rattle.sheet.specs.declared.layout.Position.TheVariants.{Plus, Minus}

side_only : (c : ℕ) (x : Side) → c < 2 → side_of c ≡ Some x → c ≡ side_code x
side_only zero Up h e = refl
side_only zero Down h e = cc
side_only (suc zero) Up h e = cc
side_only (suc zero) Down h e = refl
side_only (suc (suc c)) x h e = absurd (omega arith)

release_only : (c : ℕ) (x : Release) → c < 2 → release_of c ≡ Some x → c ≡ release_code x
release_only zero Station h e = refl
release_only zero Train h e = cc
release_only (suc zero) Station h e = cc
release_only (suc zero) Train h e = refl
release_only (suc (suc c)) x h e = absurd (omega arith)

flag_only : (c : ℕ) (x : Bool) → c < 2 → flag_of c ≡ Some x → c ≡ flag_code x
flag_only zero false h e = refl
flag_only zero true h e = cc
flag_only (suc zero) false h e = cc
flag_only (suc zero) true h e = refl
flag_only (suc (suc c)) x h e = absurd (omega arith)

demand_only : (c : ℕ) (x : Option Position) → c < 4 → demanded_by c ≡ Some x → c ≡ demand_code x
demand_only zero None h e = refl
demand_only zero (Some p) h e = cc
demand_only (suc zero) (Some Plus) h e = refl
demand_only (suc zero) (Some Minus) h e = cc
demand_only (suc zero) None h e = cc
demand_only (suc (suc zero)) (Some Minus) h e = refl
demand_only (suc (suc zero)) (Some Plus) h e = cc
demand_only (suc (suc zero)) None h e = cc
demand_only (suc (suc (suc zero))) x h e = cc
demand_only (suc (suc (suc (suc c)))) x h e = absurd (omega arith)

pub side_agree : Agree 1 side_code side_of
side_agree = record { narrow = (omega arith, omega arith); back = elim [ Up ↦ refl | Down ↦ refl ]; only = side_only }

pub release_agree : Agree 1 release_code release_of
release_agree = record { narrow = (omega arith, omega arith); back = elim [ Station ↦ refl | Train ↦ refl ]; only = release_only }

pub flag_agree : Agree 1 flag_code flag_of
flag_agree = record { narrow = (omega arith, omega arith); back = elim [ true ↦ refl | false ↦ refl ]; only = flag_only }

demand_back : (x : Option Position) → demanded_by (demand_code x) ≡ Some x
demand_back None = refl
demand_back (Some Plus) = refl
demand_back (Some Minus) = refl

pub demand_agree : Agree 2 demand_code demanded_by
demand_agree = record { narrow = (omega arith, omega arith); back = demand_back; only = demand_only }
