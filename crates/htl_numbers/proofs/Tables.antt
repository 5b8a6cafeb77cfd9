-- The tables have each byte's value and its two digits, and a number that is padded to a width is its last digits.
use Rattle.std.proofs.Common.{◌≡◌, ◌<◌, ◌+◌, ◌-◌, ◌*◌, ◌/◌, ◌%◌, ◌^◌, ℕ, zero, suc, Bool, true, false}
use Rattle.std.proofs.Common.{List, [], ◌∷◌, ◌++◌, drop, length, replicate, set, slice_index}
use Rattle.std.proofs.Common.{inl, inr, refl, sym, ap, ◌∙◌, arith, append_assoc, pow-suc}
use Rattle.std.specs.Prelude.{◌==◌, ◌&&◌}
use Rattle.std.specs.Char.{digit_value}
use Rattle.std.specs.Fmt.{digit_glyph, digits, digits_onto}
use Rattle.std.proofs.lemmas.Bool.{and_parts, cases_lt, eqb-true}
use Rattle.std.proofs.lemmas.Bool.Decides.{nat_tests}
use Rattle.std.proofs.lemmas.List.{append-nil, drop-set, drop-set-add, drop_more}
use Rattle.std.proofs.lemmas.Str.{IsUtf8-from_ascii}
use Rattle.std.proofs.lemmas.Str.Ascii.{IsAscii-nil, IsAscii-push}
use Rattle.std.specs.Str.{IsAscii, IsUtf8}
use Rattle.htl_numbers.specs.declared.TheConstants.{VALUES, PAIRS}
use Rattle.htl_numbers.specs.Written.{padded}

-- ---- tables

-- a test of the numbers below n
abbrev all_below : (ℕ → Bool) → ℕ → Bool
all_below test zero = true
all_below test (suc n) = test n && all_below test n

below_passes : (test : ℕ → Bool) (n k : ℕ) → all_below test n ≡ true → k < n → test k ≡ true
below_passes test zero k h low = absurd (omega arith)
below_passes test (suc n) k h low =
    let parts = and_parts (test n) (all_below test n) h in
    elim (cases_lt k n) [
      | inl below ↦ below_passes test n k parts.1 below
      | inr top ↦ let e : k ≡ n = omega arith in rw e parts.0
    ]

-- the table of values has each byte's
pub value_right : (b : ℕ) → b < 256 → slice_index VALUES b ≡ digit_value b
value_right b low = eqb-true (slice_index VALUES b) (digit_value b) (below_passes (λ k. slice_index VALUES k == digit_value k) 256 b refl low)

-- the table of pairs has the first and the second digit of each byte
pub first_right : (b : ℕ) → b < 256 → slice_index PAIRS (2 * b) ≡ digit_glyph false (b / 16)
first_right b low =
    eqb-true (slice_index PAIRS (2 * b)) (digit_glyph false (b / 16))
    (below_passes (λ k. slice_index PAIRS (2 * k) == digit_glyph false (k / 16)) 256 b refl low)

pub second_right : (b : ℕ) → b < 256 → slice_index PAIRS (2 * b + 1) ≡ digit_glyph false (b % 16)
second_right b low =
    eqb-true (slice_index PAIRS (2 * b + 1)) (digit_glyph false (b % 16))
    (below_passes (λ k. slice_index PAIRS (2 * k + 1) == digit_glyph false (k % 16)) 256 b refl low)

-- ---- digits of a fixed number

-- the last k digits of a number
unfoldable pub fixed : ℕ → ℕ → List ℕ
fixed zero n = []
fixed (suc k) n = fixed k (n / 16) ++ digit_glyph false (n % 16) ∷ []

one_again : (k x : ℕ) → replicate k x ++ x ∷ [] ≡ replicate (suc k) x
one_again zero x = refl
one_again (suc k) x = ap (λ xs. x ∷ xs) (one_again k x)

fixed_zero : (k : ℕ) → fixed k 0 ≡ replicate k 48
unfolding fixed
fixed_zero zero = refl
fixed_zero (suc k) = rw (fixed_zero k) (one_again k 48)

fixed_small : (k n : ℕ) (acc : List ℕ) → n / 16 ≡ 0 → replicate k 48 ++ digit_glyph false (n % 16) ∷ acc ≡ fixed (suc k) n ++ acc
unfolding fixed
fixed_small k n acc small = rw (small, fixed_zero k) (sym (append_assoc (replicate k 48) (digit_glyph false (n % 16) ∷ []) acc))

fixed_last : (k n : ℕ) (acc : List ℕ) → fixed k (n / 16) ++ digit_glyph false (n % 16) ∷ acc ≡ fixed (suc k) n ++ acc
unfolding fixed
fixed_last k n acc = sym (append_assoc (fixed k (n / 16)) (digit_glyph false (n % 16) ∷ []) acc)

further_digit : (n : ℕ) → (n / 16 == 0) ≡ false → n < 16 → ⊥
further_digit n e low = grind (arith, nat_tests)

-- zeros before the digits that stand in front of others
abbrev Filled : ℕ → ℕ → ℕ → List ℕ → Type 0
Filled fuel k n acc =
    replicate (suc k + length acc - length (digits_onto fuel 16 false n acc)) 48 ++ digits_onto fuel 16 false n acc
    ≡ fixed (suc k) n ++ acc

filled : (fuel k n : ℕ) (acc : List ℕ) → k < fuel → n < 16 ^ suc k → Filled fuel k n acc
filled zero k n acc fuel low = absurd (omega arith)
filled (suc fuel) k n acc room low =
    by_case k (n / 16 == 0) refl room low (λ j few less. filled fuel j (n / 16) (digit_glyph false (n % 16) ∷ acc) few less)
  where
    by_case : (k : ℕ) (b : Bool) → (n / 16 == 0) ≡ b → k < suc fuel → n < 16 ^ suc k
        → ((j : ℕ) → j < fuel → n / 16 < 16 ^ suc j → Filled fuel j (n / 16) (digit_glyph false (n % 16) ∷ acc))
        → Filled (suc fuel) k n acc
    by_case k true e room low more =
        let few : suc k + length acc - suc (length acc) ≡ k = omega arith in
        rw (e, few) (fixed_small k n acc (eqb-true (n / 16) 0 e))
    by_case zero false e room low more = absurd (further_digit n e (omega arith))
    by_case (suc j) false e room low more =
        let same : suc (suc j) + length acc ≡ suc j + suc (length acc) = omega arith in
        rw (e, same) (more j (omega arith) (omega (arith, pow-suc 16 (suc j))) ∙ fixed_last (suc j) n acc)

filled_first : (fuel k n : ℕ) → k < fuel → n < 16 ^ suc k
    → replicate (suc k - length (digits_onto fuel 16 false n [])) 48 ++ digits_onto fuel 16 false n [] ≡ fixed (suc k) n
filled_first fuel k n room low =
    let none : suc k + 0 ≡ suc k = omega arith in
    let all = filled fuel k n [] room low in
    rw (none, append-nil (fixed (suc k) n)) at all

-- a number of no more digits than the width is padded to its last digits, as many as the width
pub padded_fixed : (k n : ℕ) → k < 64 → n < 16 ^ suc k → padded (suc k) n ≡ fixed (suc k) n
unfolding digits
padded_fixed k n few low = filled_first 64 k n few low

digit_ascii : (n : ℕ) → digit_glyph false (n % 16) < 128
digit_ascii n = let low : n % 16 < 16 = omega arith in grind (arith, nat_tests)

fixed_ascii : (k n : ℕ) → IsAscii (fixed k n)
unfolding fixed
fixed_ascii zero n = IsAscii-nil
fixed_ascii (suc k) n = IsAscii-push (fixed k (n / 16)) (digit_glyph false (n % 16)) (fixed_ascii k (n / 16)) (digit_ascii n)

-- the 16 digits of a number of 64 bits are text
pub padded_text : (n : ℕ) → n < 2 ^ 64 → IsUtf8 (padded 16 n)
padded_text n low = IsUtf8-from_ascii (padded 16 n) (rw (padded_fixed 15 n (omega arith) (omega arith)) (fixed_ascii 16 n))

-- ---- two digits more

two_written : (xs : List ℕ) (at x y : ℕ) → at + 1 < length xs → drop at (set (set xs at x) (at + 1) y) ≡ x ∷ y ∷ drop (suc (suc at)) xs
two_written xs at x y room =
    let first = drop-set xs at x (omega arith) in
    let next = drop_more xs (at + 1) 0 room in
    let two : at + 1 + 1 ≡ suc (suc at) = omega arith in
    rw (drop-set-add at (set xs at x) 1 y, first, next, two) refl

fixed_pair : (k n : ℕ) → fixed (suc (suc k)) n
    ≡ fixed k (n / 256) ++ digit_glyph false (n % 256 / 16) ∷ digit_glyph false (n % 256 % 16) ∷ []
unfolding fixed
fixed_pair k n =
    let high : n / 16 / 16 ≡ n / 256 = omega arith in
    let first : (n % 256) / 16 ≡ n / 16 % 16 = omega arith in
    let second : (n % 256) % 16 ≡ n % 16 = omega arith in
    rw (first, second, high) (append_assoc (fixed k (n / 256)) (digit_glyph false (n / 16 % 16) ∷ []) (digit_glyph false (n % 16) ∷ []))

-- a byte's two digits are written before those of the bytes below it
pub pair_written : (number rest place x y : ℕ) (ds : List ℕ) → length ds ≡ 16 → place < 8
    → fixed (16 - 2 * place) rest ++ drop (16 - 2 * place) ds ≡ fixed 16 number
    → x ≡ digit_glyph false (rest % 256 / 16) → y ≡ digit_glyph false (rest % 256 % 16)
    → fixed (16 - 2 * (place + 1)) (rest / 256) ++ drop (16 - 2 * (place + 1)) (set (set ds (14 - 2 * place) x) (15 - 2 * place) y)
    ≡ fixed 16 number
pair_written number rest place x y ds long low so_far first second =
    let k : ℕ = 14 - 2 * place in
    let here : 16 - 2 * (place + 1) ≡ k = omega arith in
    let next : 15 - 2 * place ≡ k + 1 = omega arith in
    let before : 16 - 2 * place ≡ suc (suc k) = omega arith in
    let written = two_written ds k x y (omega (arith, long)) in
    let pair : fixed (suc (suc k)) rest ≡ fixed k (rest / 256) ++ x ∷ y ∷ [] = rw (first, second) (fixed_pair k rest) in
    let all = rw (before, pair) at so_far in
    rw (here, next, written) (sym (append_assoc (fixed k (rest / 256)) (x ∷ y ∷ []) (drop (suc (suc k)) ds)) ∙ all)
