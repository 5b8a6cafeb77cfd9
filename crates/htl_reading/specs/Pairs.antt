-- For the clauses of private functions: what the digits of a text come to, of which more may follow.
use Rattle.std.specs.Prelude.{◌≡◌, ℕ, List, [], ◌∷◌, ◌++◌, Option, None, Some, Ok}
use Rattle.hex.specs.Hex.{decode_of, hex_digit_value}
use Rattle.htl_segment.specs.Hexadecimal.{digits_of}

-- Bytes of pairs of digits, and the value of a first digit whose second one has yet to come.
pub record PairsState : Type 0 where
  pub bytes : List ℕ
  pub high : Option ℕ

-- half of a pair: one digit, which has this value, or none
abbrev pub IsHalf : List ℕ → Option ℕ → Type 0
IsHalf digits None = digits ≡ []
IsHalf digits (Some value) = (digit : ℕ) × (digits ≡ digit ∷ []) × (hex_digit_value digit ≡ Some value)

-- The digits of the text are pairs, which write these bytes, and half of one more.
pub record ArePairs (text bytes : List ℕ) (high : Option ℕ) : Type 0 where
  pub pairs : List ℕ
  pub last : List ℕ
  pub digits : digits_of text ≡ pairs ++ last
  pub decoded : decode_of pairs ≡ Ok bytes
  pub half : IsHalf last high
