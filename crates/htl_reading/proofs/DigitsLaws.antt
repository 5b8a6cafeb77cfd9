-- The bytes that the digits write of what was read of a source, which is digits and blanks.
use Rattle.std.proofs.Common.{◌≡◌, ◌<◌, ◌≤◌, ◌+◌, ◌%◌, ◌++◌, [], ℕ, true, false, List, Option, Some, None, Vec, Global}
use Rattle.std.proofs.Common.{length, arith, refl, ap, subst, ◌∙◌, length-append}
use Rattle.std.proofs.KnownBytes.{Consumes-nil, Consumes-trans, Consumes-whole}
use Rattle.std.proofs.lemmas.List.{append-nil}
use Rattle.std.proofs.lemmas.List.Elements.{filter-append}
use Rattle.std.specs.Prelude.{IfSome, IsSome, MatchOption, ok_or, position}
use Rattle.std.specs.Io.KnownBytes.{Consumes, IsAtEnd}
use Rattle.hex.proofs.HexLemmas.{decode_of-ok}
use Rattle.htl_device.specs.States.{SourceState}
use Rattle.htl_device.specs.declared.source.TheConstants.{MAX_READ_LEN}
use Rattle.htl_segment.specs.Hexadecimal.{WritesBytes, digits_of, fault_of_digits, hex_fault, is_foreign}
use Rattle.htl_segment.specs.declared.hexadecimal.HexFault.TheVariants as texts
use Rattle.htl_reading.specs.Digits.{ReadsDigits, StopsAtForeign}
use Rattle.htl_reading.specs.Pairs.{ArePairs}
use Rattle.htl_reading.specs.declared.digits.DigitsFault.TheVariants.{Odd}
use Rattle.htl_reading.proofs.Foreign.{clean_more, found_known}
use Rattle.htl_reading.proofs.PairsLaws.{digits_odd, digits_write}

-- So many bytes were read, all digits and blanks, and their digits are these pairs.
pub record IsKept (given left : Option (List ℕ)) (start : ℕ) (bytes : List ℕ) (high : Option ℕ) : Type 0 where
  pub read : List ℕ
  pub gave : Consumes given left read
  pub start_is : start ≡ length read
  pub clean : position is_foreign read ≡ None
  pub pairs : ArePairs read bytes high

-- before the first read
pub kept_none : (given : Option (List ℕ)) (bytes : List ℕ) (high : Option ℕ) → ArePairs [] bytes high → IsKept given given 0 bytes high
kept_none given bytes high are = record { read = []; gave = Consumes-nil given; start_is = refl; clean = refl; pairs = are }

module _ (given left after : Option (List ℕ)) (start : ℕ) (bytes : List ℕ) (high : Option ℕ) (piece : List ℕ)
    (kept : IsKept given left start bytes high) (gave : Consumes left after piece) where
  read_more : Consumes given after (kept.read ++ piece)
  read_more = Consumes-trans given left after kept.read piece kept.gave gave

  -- a piece more
  pub kept_more : (more : List ℕ) (half : Option ℕ) → position is_foreign piece ≡ None
      → ((text : List ℕ) → ArePairs text bytes high → ArePairs (text ++ piece) more half)
      → IsKept given after (start + length piece) more half
  kept_more more half clean adds = record {
    read = kept.read ++ piece;
    gave = read_more;
    start_is = omega (arith, kept.start_is, length-append kept.read piece);
    clean = clean_more is_foreign kept.read piece kept.clean clean;
    pairs = adds kept.read kept.pairs;
  }

  -- memory is asked for only where a digit was read
  pub digit_read : 0 < length (digits_of piece) → (read : List ℕ) × Consumes given after read × (0 < length (digits_of read))
  digit_read some =
      let both : length (digits_of (kept.read ++ piece)) ≡ length (digits_of kept.read) + length (digits_of piece) =
      ap length (filter-append _ kept.read piece) ∙ length-append (digits_of kept.read) (digits_of piece) in
      (kept.read ++ piece, read_more, omega (arith, some, both))

  pub stops_there : (place : ℕ) → position is_foreign piece ≡ Some place → length piece ≤ MAX_READ_LEN
      → StopsAtForeign given after (start + place)
  stops_there place here few = record {
    first = rw kept.start_is (found_known is_foreign given after kept.read piece place read_more kept.clean here);
    read = kept.read ++ piece;
    consumed = read_more;
    few = omega (arith, few, kept.start_is, length-append kept.read piece);
  }

-- ---- at the end

-- the text is digits and blanks, and its digits are these pairs
abbrev pub AreAll : List ℕ → Option ℕ → List ℕ → Type 0
AreAll bytes high text = (position is_foreign text ≡ None) × ArePairs text bytes high

-- as all bytes of a source are whose end was found
pub all_are : (given left after : Option (List ℕ)) (start : ℕ) (bytes : List ℕ) (high : Option ℕ) → IsKept given left start bytes high
    → Consumes left after [] → IsAtEnd after → IfSome given (AreAll bytes high)
all_are given left after start bytes high kept none end =
    let all : Consumes given after kept.read =
    subst (Consumes given after) (append-nil kept.read) (Consumes-trans given left after kept.read [] kept.gave none) in
    Consumes-whole given after kept.read (AreAll bytes high) all end (kept.clean, kept.pairs)

clean_fault : (text : List ℕ) → position is_foreign text ≡ None → hex_fault text ≡ fault_of_digits None (digits_of text)
clean_fault text clean = ap (λ (found : Option ℕ). fault_of_digits found (digits_of text)) clean

even_fault : (digits : List ℕ) → length digits % 2 ≡ 0 → fault_of_digits None digits ≡ None
even_fault digits even = rw even refl

odd_fault : (digits : List ℕ) → length digits % 2 ≡ 1 → fault_of_digits None digits ≡ Some texts.Odd
odd_fault digits odd = rw odd refl

-- pairs alone write the bytes
all_written : (given : Option (List ℕ)) (bytes : List ℕ) → IfSome given (AreAll bytes None)
    → IfSome given (λ known. WritesBytes known bytes)
all_written None bytes are = tt
all_written (Some known) bytes are =
    let decoded = digits_write known bytes are.1 in
    (clean_fault known are.0 ∙ even_fault (digits_of known) (decode_of-ok (digits_of known) bytes decoded).0, decoded)

-- and with half of one more their number is odd
all_odd : (given : Option (List ℕ)) (bytes : List ℕ) (high : Option ℕ) → IsSome high → IfSome given (AreAll bytes high)
    → IfSome given (λ known. hex_fault known ≡ Some texts.Odd)
all_odd None bytes high half are = tt
all_odd (Some known) bytes None half are = absurd (cc half)
all_odd (Some known) bytes (Some high) half are =
    clean_fault known are.0 ∙ odd_fault (digits_of known) (digits_odd known bytes high are.1)

-- How a source was read whose end was found.
pub ended_read : (most : ℕ) (given : Option (List ℕ)) (old new : SourceState) (bytes : List ℕ) (high : Option ℕ) (made : Option (Vec ℕ Global))
    → IfSome given (AreAll bytes high) → MatchOption made (IsSome high) (λ all. (high ≡ None) × (all.items ≡ bytes))
    → new.ended ≡ true → new.failed ≡ false → new.good_reads ≤ old.good_reads + most → new.tails ≡ old.tails
    → ReadsDigits most given old new (ok_or made Odd)
ended_read most given old new bytes high None are half ended fine bounded tails = record {
  ok = tt;
  ended = tt;
  foreign = λ place is. absurd (cc is);
  odd = λ is. (ended, all_odd given bytes high half are);
  reported = λ failed. absurd (cc (fine, failed));
  memory = λ is. absurd (cc is);
  failed = λ is. absurd (cc is);
  bounded = bounded;
  tails = tails;
}
ended_read most given old new bytes high (Some all) are is ended fine bounded tails = record {
  ok =
      let pairs : IfSome given (AreAll bytes None) = subst (λ (h : Option ℕ). IfSome given (AreAll bytes h)) is.0 are in
      rw (is.1) (all_written given bytes pairs);
  ended = ended;
  foreign = λ place is. absurd (cc is);
  odd = λ is. absurd (cc is);
  reported = λ failed. absurd (cc (fine, failed));
  memory = λ is. absurd (cc is);
  failed = λ is. absurd (cc is);
  bounded = bounded;
  tails = tails;
}
