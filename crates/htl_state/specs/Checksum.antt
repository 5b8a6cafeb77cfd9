-- The checksum of bytes (this project's own): their value as digits of a number in an odd base, modulo 2^64.
use Rattle.std.specs.Prelude.{ℕ, ◌+◌, ◌*◌, ◌%◌, ◌^◌, List, [], ◌∷◌}

-- the base, from the golden ratio
abbrev pub base : ℕ
base = 0x9E3779B97F4A7C15

-- a sum with one byte more
unfoldable pub with_byte : ℕ → ℕ → ℕ
with_byte sum byte = (sum * base % 2 ^ 64 + byte) % 2 ^ 64

-- a sum with these bytes more, one after the other
unfoldable pub with_bytes : ℕ → List ℕ → ℕ
with_bytes sum [] = sum
with_bytes sum (byte ∷ bytes) = with_bytes (with_byte sum byte) bytes

abbrev pub checksum : List ℕ → ℕ
checksum bytes = with_bytes 0 bytes
