-- The numbers that decimal and hexadecimal digits write, as they are dumped, are read again.
use Rattle.std.proofs.Common.{◌≡◌, ◌≤◌, ◌<◌, ◌+◌, ◌-◌, ◌/◌, ◌%◌, ◌^◌, ℕ, zero, suc, Bool, true, false, List, [], ◌∷◌, ◌++◌, length, replicate, refl, arith}
use Rattle.std.proofs.Common.{◌∙◌, length-append, pow-suc}
use Rattle.std.specs.Prelude.{Some, codes, ◌==◌}
use Rattle.std.specs.List.{list_all}
use Rattle.std.specs.Fmt.{decimal, digits, digit_glyph, digits_onto}
use Rattle.std.specs.Char.{digit_value}
use Rattle.std.specs.Str.Parse.{AllDigits}
use Rattle.std.proofs.lemmas.Fmt.{digits_is_IsNumeral}
use Rattle.std.proofs.lemmas.Bool.{le-leb}
use Rattle.std.proofs.lemmas.Bool.Decides.{nat_tests}
use Rattle.std.proofs.lemmas.List.{length-replicate}
use Rattle.htl_lemmas.proofs.Padding.{after_zeros}
use Rattle.htl_numbers.specs.Numbers.{hexadecimal_number, without_0x}
use Rattle.htl_numbers.specs.Written.{hex, padded}
use Rattle.htl_numbers.proofs.Digits.{Writes, number_read}
use Rattle.htl_text.specs.Texts.{is_visible}
use Rattle.htl_text.specs.Fields.{marked_value}

-- digits can be seen
visible_digit : (c : ℕ) → digit_value c < 16 → is_visible c ≡ true
visible_digit c h = grind (arith, nat_tests)

-- digits up to base 16 can be seen
pub visible_digits : (radix : ℕ) (ds : List ℕ) → radix ≤ 16 → AllDigits radix ds → list_all is_visible ds ≡ true
visible_digits radix [] low h = refl
visible_digits radix (c ∷ cs) low h = rw (visible_digit c (omega (arith, h.0)), visible_digits radix cs low h.1) refl

-- the decimal digits of a number of 64 bits write it
pub decimal_writes : (n : ℕ) → n < 2 ^ 64 → Writes 10 n (decimal n)
decimal_writes n low = let w = digits_is_IsNumeral 10 false (omega arith) (omega arith) n (omega arith) in record { numeral = w.0; value = w.1 }

-- the hexadecimal digits of a number of 64 bits write it
pub hex_writes : (n : ℕ) → n < 2 ^ 64 → Writes 16 n (hex n)
hex_writes n low = let w = digits_is_IsNumeral 16 false (omega arith) (omega arith) n (omega arith) in record { numeral = w.0; value = w.1 }

-- zeros before digits are digits
zeros_digits : (k : ℕ) (ds : List ℕ) → AllDigits 16 ds → AllDigits 16 (replicate k 48 ++ ds)
zeros_digits zero ds h = h
zeros_digits (suc k) ds h = (omega arith, zeros_digits k ds h)

-- the hexadecimal digits of a number of 64 bits write it with zeros before them, too
pub padded_writes : (width n : ℕ) → n < 2 ^ 64 → Writes 16 n (padded width n)
padded_writes width n low =
    let w = hex_writes n low in
    let zeros : List ℕ = replicate (width - length (hex n)) 48 in
    record {
      numeral = (omega (arith, length-append zeros (hex n), w.numeral.0), zeros_digits (width - length (hex n)) (hex n) w.numeral.1);
      value = after_zeros (width - length (hex n)) (hex n) ∙ w.value;
    }

-- a number below a power of 16 has no more digits than the exponent
no_further_digit : (n : ℕ) → (n / 16 == 0) ≡ false → n < 16 → ⊥
no_further_digit n e low = grind (arith, nat_tests)

digits_few : (k m n : ℕ) (acc : List ℕ) → n < 16 ^ suc m → length (digits_onto k 16 false n acc) ≤ suc m + length acc
digits_few zero m n acc low = omega arith
digits_few (suc k) m n acc low = by_case m (n / 16 == 0) refl low (λ l. digits_few k l (n / 16) (digit_glyph false (n % 16) ∷ acc))
  where
    by_case : (m : ℕ) (b : Bool) → (n / 16 == 0) ≡ b → n < 16 ^ suc m
        → ((l : ℕ) → n / 16 < 16 ^ suc l → length (digits_onto k 16 false (n / 16) (digit_glyph false (n % 16) ∷ acc)) ≤ suc l + suc (length acc))
        → length (digits_onto (suc k) 16 false n acc) ≤ suc m + length acc
    by_case m true e low more = rw e (omega arith)
    by_case zero false e low more = absurd (no_further_digit n e (omega arith))
    by_case (suc m) false e low more = rw e (omega (arith, more m (omega (arith, pow-suc 16 (suc m)))))

-- a number below 16 ^ (m + 1) has no more than m + 1 hexadecimal digits
pub hex_short : (m n : ℕ) → n < 16 ^ suc m → length (hex n) ≤ suc m
unfolding digits
hex_short m n low = omega (arith, digits_few 64 m n [] low)

-- digits that aren't wider than the width have this width with zeros before them
pub length_padded : (width n : ℕ) → length (hex n) ≤ width → length (padded width n) ≡ width
length_padded width n few =
    omega (arith, length-append (replicate (width - length (hex n)) 48) (hex n), length-replicate {A = ℕ} (width - length (hex n)) 48)

-- digits after `0x` are their number
pub hexadecimal_read : (most n : ℕ) (ds : List ℕ) → Writes 16 n ds → length ds ≤ 16 → n ≤ most
    → hexadecimal_number most (codes "0x" ++ ds) ≡ Some n
unfolding hexadecimal_number without_0x
hexadecimal_read most n ds w few small = rw (le-leb (length ds) 16 few) (number_read 16 most n ds w small)

-- `0x` and digits that write a number within the bound are read as this number
pub marked_read : (most n : ℕ) (ds : List ℕ) → Writes 16 n ds → length ds ≤ 16 → n ≤ most → marked_value most (codes "0x" ++ ds) ≡ Some n
unfolding marked_value
marked_read most n ds w few small = hexadecimal_read most n ds w few small
