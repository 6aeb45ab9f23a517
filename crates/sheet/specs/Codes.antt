-- What stands in a sheet as a code: the code of each value, the value of each code, and what it is that the two agree.
use Rattle.std.specs.Prelude.{◌≡◌, ℕ, ◌^◌, ◌<◌, ◌≤◌, Bool, cond, Some, None, Option, ◌==◌}
use Rattle.sheet.specs.declared.layout.Side.{Side}
use Rattle.sheet.specs.declared.layout.Side.TheVariants.{Up, Down}
use Rattle.sheet.specs.declared.layout.Release.{Release}
use Rattle.sheet.specs.declared.layout.Release.TheVariants.{Station, Train}
use Rattle.sheet.specs.declared.layout.Position.{Position}
use Rattle.sheet.specs.declared.layout.Position.TheVariants.{Plus, Minus}

abbrev pub side_code : Side → ℕ
side_code Up = 0
side_code Down = 1

abbrev pub release_code : Release → ℕ
release_code Station = 0
release_code Train = 1

abbrev pub demand_code : Option Position → ℕ
demand_code None = 0
demand_code (Some Plus) = 1
demand_code (Some Minus) = 2

abbrev pub flag_code : Bool → ℕ
flag_code b = cond b 1 0

abbrev pub side_of : ℕ → Option Side
side_of c = Some (cond (c == 0) Up Down)

abbrev pub release_of : ℕ → Option Release
release_of c = Some (cond (c == 0) Station Train)

-- what is demanded of a point, which may be nothing; None from code 3 on, which stands for no demand
abbrev pub demanded_by : ℕ → Option (Option Position)
demanded_by c = cond (c == 0) (Some None) (cond (c == 1) (Some (Some Plus)) (cond (c == 2) (Some (Some Minus)) None))

abbrev pub flag_of : ℕ → Option Bool
flag_of c = Some (c == 1)

-- a code has one bit or two; a value's code stands for it, and no other code of k bits does
pub record Agree {A : Type 0} (k : ℕ) (code : A → ℕ) (value : ℕ → Option A) : Type 0 where
  pub narrow : (0 < k) × (k ≤ 2)
  pub back : (x : A) → value (code x) ≡ Some x
  pub only : (c : ℕ) (x : A) → c < 2 ^ k → value c ≡ Some x → c ≡ code x
