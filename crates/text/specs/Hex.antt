-- Bytes in lower-case hex, two digits a byte.
use Rattle.std.specs.Prelude.{ℕ, ◌+◌, ◌-◌, ◌*◌, cond, ◌&&◌, List, [], ◌∷◌, Some, None, Option, nat_le}

-- 48 is '0', 57 '9', 97 'a', 102 'f'
abbrev pub digit_of : ℕ → Option ℕ
digit_of b = cond (nat_le 48 b && nat_le b 57) (Some (b - 48)) (cond (nat_le 97 b && nat_le b 102) (Some (b - 97 + 10)) None)

-- the byte of two digits
abbrev pub paired : Option ℕ → Option ℕ → Option ℕ
paired None low = None
paired (Some high) None = None
paired (Some high) (Some low) = Some (high * 16 + low)

abbrev pub byte_of : ℕ → ℕ → Option ℕ
byte_of a b = paired (digit_of a) (digit_of b)

-- a byte in front of those after it, where there are both
abbrev pub in_front : Option ℕ → Option (List ℕ) → Option (List ℕ)
in_front None bs = None
in_front (Some b) None = None
in_front (Some b) (Some bs) = Some (b ∷ bs)

-- none of an odd count of digits, or where another byte stands among them
abbrev pub bytes_of : List ℕ → Option (List ℕ)
bytes_of [] = Some []
bytes_of (a ∷ []) = None
bytes_of (a ∷ b ∷ rest) = in_front (byte_of a b) (bytes_of rest)
