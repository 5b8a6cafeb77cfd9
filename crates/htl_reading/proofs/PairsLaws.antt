-- Which bytes the digits of a text write, where they come one after another.
use Rattle.std.proofs.Common.{◌≡◌, ◌<◌, ◌+◌, ◌*◌, ◌%◌, ◌++◌, ◌∷◌, [], ◌∙◌, ℕ, zero, suc, Bool, true, false, List, Some, None}
use Rattle.std.proofs.Common.{Result, Ok, Err, length, get_or, cond, arith, refl, sym, ap, append-nil, append_assoc, length-append}
use Rattle.std.proofs.lemmas.List.Elements.{filter-append}
use Rattle.hex.specs.Hex.{decode_of, decode_pairs, digit_or_error, hex_digit_value, is_hex_digit, pair_value, value_at}
use Rattle.hex.specs.declared.error.FromHexError.{FromHexError}
use Rattle.hex.specs.declared.error.FromHexError.TheVariants.{OddLength}
use Rattle.hex.proofs.HexLemmas.{decode_of-even, decode_of-ok}
use Rattle.hex.proofs.Pairs.{cons_byte, decode_pairs-err_pair, decode_pairs-ok_pair, prepend}
use Rattle.htl_segment.specs.Hexadecimal.{digits_of}
use Rattle.htl_reading.specs.Pairs.{ArePairs}

-- ---- one pair more

-- what the first pair and those after it write
module _ (i a b : ℕ) (rest bytes : List ℕ) where
  abbrev FirstOf : Type 0
  FirstOf =
      (byte : ℕ) × (later : List ℕ) × (pair_value a b i ≡ Ok byte) × (decode_pairs (i + 2) rest ≡ Ok later) × (bytes ≡ byte ∷ later)

  later_of : (byte : ℕ) (found : Result (List ℕ) FromHexError) → pair_value a b i ≡ Ok byte → decode_pairs (i + 2) rest ≡ found
      → cons_byte byte found ≡ Ok bytes → FirstOf
  later_of byte (Ok later) pair decoded is =
      let both : Ok (byte ∷ later) ≡ Ok bytes = is in
      let same : byte ∷ later ≡ bytes = cc both in
      (byte, later, pair, decoded, sym same)
  later_of byte (Err e) pair decoded is = let no : Err e ≡ Ok bytes = is in absurd (cc no)

  first_of : (found : Result ℕ FromHexError) → pair_value a b i ≡ found → decode_pairs i (a ∷ b ∷ rest) ≡ Ok bytes → FirstOf
  first_of (Ok byte) pair is =
      later_of byte (decode_pairs (i + 2) rest) pair refl (sym (decode_pairs-ok_pair i a b byte rest pair) ∙ is)
  first_of (Err e) pair is = let no : Err e ≡ Ok bytes = sym (decode_pairs-err_pair i a b e rest pair) ∙ is in absurd (cc no)

none_before : (found : Result (List ℕ) FromHexError) → found ≡ prepend [] found
none_before (Ok bytes) = refl
none_before (Err e) = refl

one_before : (byte : ℕ) (later : List ℕ) (found : Result (List ℕ) FromHexError)
    → cons_byte byte (prepend later found) ≡ prepend (byte ∷ later) found
one_before byte later (Ok bytes) = refl
one_before byte later (Err e) = refl

-- pairs that write bytes, and more digits behind them
decoded_more : (i : ℕ) (pairs more bytes : List ℕ) → decode_pairs i pairs ≡ Ok bytes
    → decode_pairs i (pairs ++ more) ≡ prepend bytes (decode_pairs (i + length pairs) more)
unfolding decode_pairs
decoded_more i [] more bytes is =
    let none : Ok [] ≡ Ok bytes = is in
    let empty : [] ≡ bytes = cc none in
    let same : i ≡ i + 0 = omega arith in
    rw (← empty) (none_before (decode_pairs i more) ∙ ap (λ (n : ℕ). prepend [] (decode_pairs n more)) same)
decoded_more i (a ∷ []) more bytes is = let no : Err OddLength ≡ Ok bytes = is in absurd (cc no)
decoded_more i (a ∷ b ∷ rest) more bytes is =
    let first = first_of i a b rest bytes (pair_value a b i) refl is in
    let behind = decoded_more (i + 2) rest more first.1 first.3 in
    let place : i + 2 + length rest ≡ i + length (a ∷ b ∷ rest) = omega arith in
    decode_pairs-ok_pair i a b first.0 (rest ++ more) first.2 ∙ ap (cons_byte first.0) behind
    ∙ one_before first.0 first.1 (decode_pairs (i + 2 + length rest) more)
    ∙ ap (λ (n : ℕ). prepend (first.0 ∷ first.1) (decode_pairs n more)) place
    ∙ ap (λ (l : List ℕ). prepend l (decode_pairs (i + length (a ∷ b ∷ rest)) more)) (sym first.4)

one_pair : (i a b high low : ℕ) → hex_digit_value a ≡ Some high → hex_digit_value b ≡ Some low
    → decode_pairs i (a ∷ b ∷ []) ≡ Ok ((high * 16 + low) ∷ [])
unfolding decode_pairs
one_pair i a b high low is_high is_low =
    let first : value_at a i ≡ Ok high = ap (digit_or_error a i) is_high in
    let second : value_at b (i + 1) ≡ Ok low = ap (digit_or_error b (i + 1)) is_low in
    let pair : pair_value a b i ≡ Ok (high * 16 + low) = rw (first, second) refl in
    decode_pairs-ok_pair i a b (high * 16 + low) [] pair

-- one pair more writes one byte more
pair_more : (pairs bytes : List ℕ) (a b high low : ℕ) → decode_of pairs ≡ Ok bytes → hex_digit_value a ≡ Some high
    → hex_digit_value b ≡ Some low → decode_of (pairs ++ a ∷ b ∷ []) ≡ Ok (bytes ++ (high * 16 + low) ∷ [])
pair_more pairs bytes a b high low decoded is_high is_low =
    let even : length pairs % 2 ≡ 0 = (decode_of-ok pairs bytes decoded).0 in
    let long : length (pairs ++ a ∷ b ∷ []) ≡ length pairs + 2 = length-append pairs (a ∷ b ∷ []) in
    let by_pairs : decode_pairs 0 pairs ≡ Ok bytes = sym (decode_of-even pairs even) ∙ decoded in
    decode_of-even (pairs ++ a ∷ b ∷ []) (omega (arith, even, long)) ∙ decoded_more 0 pairs (a ∷ b ∷ []) bytes by_pairs
    ∙ ap (prepend bytes) (one_pair (0 + length pairs) a b high low is_high is_low)

-- ---- one byte of the text more

pub no_pairs : ArePairs [] [] None
unfolding decode_pairs
no_pairs = record { pairs = []; last = []; digits = refl; decoded = refl; half = refl }

digit_kept : (digit value : ℕ) → hex_digit_value digit ≡ Some value → digits_of (digit ∷ []) ≡ digit ∷ []
digit_kept digit value is = rw is refl

module _ (text bytes : List ℕ) where
  -- a first digit waits for its second
  pub with_first : (digit value : ℕ) → ArePairs text bytes None → hex_digit_value digit ≡ Some value
      → ArePairs (text ++ digit ∷ []) bytes (Some value)
  with_first digit value are is =
      let whole : digits_of text ≡ are.pairs =
      are.digits ∙ ap (λ (l : List ℕ). are.pairs ++ l) are.half ∙ append-nil are.pairs in
      record {
        pairs = are.pairs;
        last = digit ∷ [];
        digits = filter-append _ text (digit ∷ []) ∙ ap (λ (l : List ℕ). l ++ digits_of (digit ∷ [])) whole
            ∙ ap (λ (l : List ℕ). are.pairs ++ l) (digit_kept digit value is);
        decoded = are.decoded;
        half = (digit, refl, is);
      }

  -- and makes a byte with it
  pub with_second : (high digit value byte : ℕ) → ArePairs text bytes (Some high) → hex_digit_value digit ≡ Some value
      → byte ≡ 16 * high + value → ArePairs (text ++ digit ∷ []) (bytes ++ byte ∷ []) None
  with_second high digit value byte are is made =
      let first = are.half.0 in
      let same : high * 16 + value ≡ byte = omega (arith, made) in
      record {
        pairs = are.pairs ++ first ∷ digit ∷ [];
        last = [];
        digits = filter-append _ text (digit ∷ []) ∙ ap (λ (l : List ℕ). l ++ digits_of (digit ∷ [])) are.digits
            ∙ ap (λ (l : List ℕ). (are.pairs ++ are.last) ++ l) (digit_kept digit value is)
            ∙ ap (λ (l : List ℕ). (are.pairs ++ l) ++ digit ∷ []) are.half.1 ∙ append_assoc are.pairs (first ∷ []) (digit ∷ [])
            ∙ sym (append-nil (are.pairs ++ first ∷ digit ∷ []));
        decoded = pair_more are.pairs bytes first digit high value are.decoded are.half.2 is
            ∙ ap (λ (n : ℕ). Ok (bytes ++ n ∷ [])) same;
        half = refl;
      }

longer : (b : Bool) (byte : ℕ) (rest : List ℕ) → 0 < length rest → 0 < length (cond b (byte ∷ rest) rest)
longer true byte rest some = omega arith
longer false byte rest some = some

-- a digit is one of the digits
pub digit_there : (text : List ℕ) (i d : ℕ) → i < length text → is_hex_digit (get_or text i d) ≡ true → 0 < length (digits_of text)
digit_there [] i d inside is = absurd (omega (arith, inside))
digit_there (byte ∷ more) zero d inside is =
    let first : digits_of (byte ∷ more) ≡ byte ∷ digits_of more = rw is refl in
    rw first (omega arith)
digit_there (byte ∷ more) (suc i) d inside is =
    longer (is_hex_digit byte) byte (digits_of more) (digit_there more i d (omega (arith, inside)) is)

-- ---- at the end

-- where no digit waits, the digits write the bytes
pub digits_write : (text bytes : List ℕ) → ArePairs text bytes None → decode_of (digits_of text) ≡ Ok bytes
digits_write text bytes are =
    ap decode_of (are.digits ∙ ap (λ (l : List ℕ). are.pairs ++ l) are.half ∙ append-nil are.pairs) ∙ are.decoded

-- else their number is odd
pub digits_odd : (text bytes : List ℕ) (high : ℕ) → ArePairs text bytes (Some high) → length (digits_of text) % 2 ≡ 1
digits_odd text bytes high are =
    let even : length are.pairs % 2 ≡ 0 = (decode_of-ok are.pairs bytes are.decoded).0 in
    let one : length are.last ≡ 1 = ap length are.half.1 in
    let long : length (digits_of text) ≡ length are.pairs + length are.last =
    ap length are.digits ∙ length-append are.pairs are.last in
    omega (arith, even, one, long)
