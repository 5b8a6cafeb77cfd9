-- `{:016x}` and `{:08x}` write a number as its digits, with zeros before them.
use Rattle.std.proofs.Common.{◌≡◌, ◌-◌, ◌^◌, ℕ, zero, suc, false, List, [], ◌++◌, length, replicate, refl, arith}
use Rattle.std.specs.Fmt.{char_count, padded_integral, format_spec}
use Rattle.std.specs.Str.Parse.{digits_value}
use Rattle.std.proofs.lemmas.List.{append-nil}

-- a number is padded with zeros to the width
pub padded_to : (width : ℕ) (digits : List ℕ)
    → padded_integral (format_spec 32 0 4 width (2 ^ 64 - 1)) false [] digits ≡ replicate (width - length digits) 48 ++ digits
unfolding padded_integral char_count
padded_to width digits = simp (append-nil, less-none)
  where
    less-none : (n : ℕ) → n - 0 ≡ n
    less-none n = omega arith

-- zeros before digits change nothing
pub after_zeros : (k : ℕ) (ds : List ℕ) → digits_value 16 (replicate k 48 ++ ds) ≡ digits_value 16 ds
after_zeros zero ds = refl
after_zeros (suc k) ds = after_zeros k ds
