-- Digits are read one after another as the number that they write, and some texts write none.
use Rattle.std.proofs.Common.{◌≡◌, ◌≤◌, ◌<◌, ◌+◌, ◌*◌, ℕ, zero, suc, Bool, true, false, List}
use Rattle.std.proofs.Common.{[], ◌∷◌, length, take, drop, get_or, refl, sym, ap, ◌∙◌, arith}
use Rattle.std.proofs.Common.{◌++◌, take-append-drop, mul-le-mul, le_refl, le_trans}
use Rattle.std.specs.Prelude.{Some, None, ◌&&◌, if◌then◌else◌}
use Rattle.std.specs.List.{list_all}
use Rattle.std.specs.Char.{digit_value, is_digit}
use Rattle.std.specs.Str.Parse.{AllDigits, IsNumeral, digits_value, digits_value_after}
use Rattle.std.proofs.lemmas.Bool.{le-leb, le-ltb, and_right, lt-leb, lt-ltb}
use Rattle.std.proofs.lemmas.Int.Digits.{digits_more, digits_value_more}
use Rattle.htl_numbers.specs.Numbers.{number_of}

-- a text of digits that writes a number
pub record Writes (radix n : ℕ) (ds : List ℕ) : Type 0 where
  pub numeral : IsNumeral radix ds
  pub value : digits_value radix ds ≡ n

all_tested : (radix : ℕ) (ds : List ℕ) → AllDigits radix ds → list_all (λ c. is_digit c radix) ds ≡ true
all_tested radix [] h = refl
all_tested radix (c ∷ cs) h = rw (lt-ltb (digit_value c) radix h.0, all_tested radix cs h.1) refl

-- digits that write a number within the bound are read as this number
pub number_read : (radix most n : ℕ) (ds : List ℕ) → Writes radix n ds → n ≤ most → number_of radix most ds ≡ Some n
unfolding number_of
number_read radix most n ds w low =
    rw (all_tested radix ds w.numeral.1, lt-ltb 0 (length ds) w.numeral.0, w.value, le-leb n most low) refl

not_all : (radix : ℕ) (text : List ℕ) (i : ℕ) → i < length text → radix ≤ digit_value (get_or text i 0)
    → list_all (λ c. is_digit c radix) text ≡ false
not_all radix [] i within other = absurd (omega arith)
not_all radix (c ∷ cs) zero within other = rw (le-ltb (digit_value c) radix other) refl
not_all radix (c ∷ cs) (suc i) within other = rw (not_all radix cs i (omega arith) other) (and_right (is_digit c radix) false refl)

-- a byte is no digit
pub other_byte : (radix most : ℕ) (text : List ℕ) (i : ℕ) → i < length text → radix ≤ digit_value (get_or text i 0)
    → None ≡ number_of radix most text
unfolding number_of
other_byte radix most text i within other = rw (not_all radix text i within other) refl

value_after : (radix n : ℕ) (ds es : List ℕ)
    → digits_value_after radix n (ds ++ es) ≡ digits_value_after radix (digits_value_after radix n ds) es
value_after radix n [] es = refl
value_after radix n (d ∷ ds) es = value_after radix (n * radix + digit_value d) ds es

value_grows : (radix n : ℕ) (es : List ℕ) → 1 ≤ radix → n ≤ digits_value_after radix n es
value_grows radix n [] one = omega arith
value_grows radix n (e ∷ es) one =
    let step : n * 1 ≤ n * radix = mul-le-mul (le_refl n) one in
    let rest = value_grows radix (n * radix + digit_value e) es one in
    let d = digit_value e in le_trans (omega (arith, step)) rest

front_value : (radix : ℕ) (text : List ℕ) (i : ℕ) → 1 ≤ radix → digits_value radix (take i text) ≤ digits_value radix text
front_value radix text i one =
    let whole = ap (digits_value radix) (sym (take-append-drop i text)) ∙ value_after radix 0 (take i text) (drop i text) in
    rw whole (value_grows radix (digits_value radix (take i text)) (drop i text) one)

no_number : (a b : Bool) (n : ℕ) → None ≡ (if a && (b && false) then Some n else None)
no_number a true n = rw (and_right a false refl) refl
no_number a false n = rw (and_right a false refl) refl

-- the first digits write too great a number
pub too_great : (radix most : ℕ) (text : List ℕ) (i : ℕ) → 1 ≤ radix → most < digits_value radix (take i text)
    → None ≡ number_of radix most text
unfolding number_of
too_great radix most text i one great =
    let more = front_value radix text i one in
    rw (lt-leb (digits_value radix text) most (omega (arith, great, more))) (no_number _ _ _)

-- one digit more
pub digit_next : (radix : ℕ) (text : List ℕ) (i number digit : ℕ) → i < length text → AllDigits radix (take i text)
    → number ≡ digits_value radix (take i text) → digit ≡ digit_value (get_or text i 0) → digit < radix
    → AllDigits radix (take (i + 1) text) × (number * radix + digit ≡ digits_value radix (take (i + 1) text))
digit_next radix text i number digit within all is value low =
    (digits_more radix text i within all (rw (← value) low), rw (digits_value_more radix text i within, ← is, ← value) refl)

-- one digit more is too much
pub overflow : (radix most : ℕ) (text : List ℕ) (i number digit : ℕ) → i < length text → AllDigits radix (take i text)
    → number ≡ digits_value radix (take i text) → digit ≡ digit_value (get_or text i 0) → digit < radix → 1 ≤ radix
    → most < number * radix + digit → None ≡ number_of radix most text
overflow radix most text i number digit within all is value low one great =
    let next = digit_next radix text i number digit within all is value low in
    too_great radix most text (i + 1) one (rw (← next.1) great)

-- all are read
pub all_digits_read : (radix most : ℕ) (text : List ℕ) (number : ℕ) → 0 < length text → AllDigits radix text
    → number ≡ digits_value radix text → number ≤ most → Some number ≡ number_of radix most text
all_digits_read radix most text number some all is low =
    sym (number_read radix most number text (record { numeral = (some, all); value = sym is }) low)

-- an empty text writes no number
pub no_digits : (radix most : ℕ) (text : List ℕ) → length text ≡ 0 → None ≡ number_of radix most text
unfolding number_of
no_digits radix most [] none = refl
no_digits radix most (c ∷ cs) none = absurd (omega (arith, none))
