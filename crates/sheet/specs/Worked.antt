-- The worked sheet: one point, two signals, two levers and three routes; and what is said of damaged copies of it.
use Rattle.std.specs.Prelude.{◌≡◌, ℕ, List, [], ◌∷◌, ◌++◌, map, take, drop}
use Rattle.sheet.specs.Decode.{Outcome, accepted, refused, decode}

abbrev pub worked_sheet : List ℕ
worked_sheet = 0x10 ∷ 0x42 ∷ 0x10 ∷ 0x60 ∷ 0x01 ∷ 0x02 ∷ 0x04 ∷ 0x10 ∷ 0x68 ∷ []

-- a fault's number and place, and 0 and 0 of what is accepted
pub record Answer : Type 0 where
  pub number : ℕ
  pub place : ℕ

abbrev pub answer_of : Outcome → Answer
answer_of (accepted l) = record { number = 0; place = 0 }
answer_of (refused n p) = record { number = n; place = p }

-- whole; empty; without its last byte; with the last byte 69; with a tenth byte; with the first byte 20
abbrev pub copies : List (List ℕ)
copies =
    worked_sheet ∷ [] ∷ take 8 worked_sheet ∷ (take 8 worked_sheet ++ 0x69 ∷ []) ∷ (worked_sheet ++ 0 ∷ []) ∷ (0x20 ∷ drop 1 worked_sheet) ∷ []

abbrev pub answers : List Answer
answers =
    record { number = 0; place = 0 } ∷
    record { number = 1; place = 0 } ∷
    record { number = 1; place = 61 } ∷
    record { number = 6; place = 71 } ∷
    record { number = 6; place = 72 } ∷
    record { number = 2; place = 0 } ∷ []

abbrev pub CopiesAnswered : Type 0
CopiesAnswered = map (λ s. answer_of (decode s)) copies ≡ answers
