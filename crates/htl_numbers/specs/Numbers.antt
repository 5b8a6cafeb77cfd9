-- Which texts are numbers. This project's own rules; a text is the list of its bytes.
use Rattle.std.specs.Prelude.{◌&&◌, ℕ, List, Option, Some, None, codes, drop, if◌then◌else◌, length, nat_eq, nat_le, nat_lt}
use Rattle.std.specs.List.{list_all, starts_with}
use Rattle.std.specs.Char.{is_digit}
use Rattle.std.specs.Str.Parse.{digits_value}

-- the number that a text writes in digits of the radix: one or more and nothing else, and at most `most`
unfoldable pub number_of : ℕ → ℕ → List ℕ → Option ℕ
number_of radix most text =
    if list_all (λ c. is_digit c radix) text && (nat_lt 0 (length text) && nat_le (digits_value radix text) most)
    then Some (digits_value radix text) else None

-- in decimal digits
abbrev pub decimal_number : ℕ → List ℕ → Option ℕ
decimal_number most text = number_of 10 most text

-- a text without an optional `0x`, in lower case, at its start
unfoldable pub without_0x : List ℕ → List ℕ
without_0x text = if starts_with nat_eq text (codes "0x") then drop 2 text else text

-- the number that a text writes in at most 16 hexadecimal digits, after an optional `0x`
unfoldable pub hexadecimal_number : ℕ → List ℕ → Option ℕ
hexadecimal_number most text = if nat_le (length (without_0x text)) 16 then number_of 16 most (without_0x text) else None
