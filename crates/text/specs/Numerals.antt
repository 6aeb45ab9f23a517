-- A number in decimal, without leading zeros.
use Rattle.std.specs.Prelude.{ℕ, ◌+◌, ◌-◌, ◌*◌, Bool, true, false, cond, not, ◌&&◌, List, [], ◌∷◌, Some, None, Option, ◌==◌, nat_le}
use Rattle.std.specs.List.{fold, list_all}

-- 48 is '0', 57 '9'
abbrev pub is_digit : ℕ → Bool
is_digit b = nat_le 48 b && nat_le b 57

abbrev pub all_digits : List ℕ → Bool
all_digits bs = list_all is_digit bs

-- what digits spell behind a number
abbrev pub spelled : ℕ → List ℕ → ℕ
spelled n bs = fold (λ n b. n * 10 + (b - 48)) n bs

-- the number that digits spell, up to the most that is allowed
abbrev pub spelled_to : ℕ → List ℕ → Option ℕ
spelled_to most bs = cond (all_digits bs && nat_le (spelled 0 bs) most) (Some (spelled 0 bs)) None

-- a first byte, which is no 0 where others follow
abbrev pub led_right : List ℕ → Bool
led_right [] = false
led_right (b ∷ []) = true
led_right (b ∷ c ∷ bs) = not (b == 48)

-- the same without leading zeros
abbrev pub numeral_of : ℕ → List ℕ → Option ℕ
numeral_of most bs = cond (led_right bs) (spelled_to most bs) None
