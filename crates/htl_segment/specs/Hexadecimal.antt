-- Bytes written as pairs of hexadecimal digits, with blanks anywhere (this project's own rule).
use Rattle.std.specs.Prelude.{◌≡◌, ℕ, ◌%◌, Bool, not, ◌||◌, ◌==◌, List, length, filter, position, Option, Some, None, Ok, if◌then◌else◌}
use Rattle.hex.specs.Hex.{is_hex_digit, decode_of}
use Rattle.htl_segment.specs.declared.hexadecimal.HexFault.{HexFault}
use Rattle.htl_segment.specs.declared.hexadecimal.HexFault.TheVariants.{BadDigit, Odd}

-- neither a digit nor a space, a carriage return or a line feed
abbrev pub is_foreign : ℕ → Bool
is_foreign c = not (is_hex_digit c || c == 32 || c == 13 || c == 10)

abbrev pub digits_of : List ℕ → List ℕ
digits_of text = filter is_hex_digit text

abbrev pub fault_of_digits : Option ℕ → List ℕ → Option HexFault
fault_of_digits (Some place) digits = Some (BadDigit place)
fault_of_digits None digits = if length digits % 2 == 1 then Some Odd else None

-- why a text is no bytes: its first foreign byte, or else an odd number of digits
abbrev pub hex_fault : List ℕ → Option HexFault
hex_fault text = fault_of_digits (position is_foreign text) (digits_of text)

-- the bytes that a text writes in hexadecimal
abbrev pub WritesBytes : List ℕ → List ℕ → Type 0
WritesBytes text bytes = (hex_fault text ≡ None) × (decode_of (digits_of text) ≡ Ok bytes)
