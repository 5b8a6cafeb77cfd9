-- How digits are read as the bytes that they write: no further than the first foreign byte (this project's own).
use Rattle.std.specs.Prelude.{◌≡◌, ◌<◌, ◌≤◌, ◌+◌, ◌⊎◌, ℕ, true, false, List, length, position, Option, Some, IfOk, IfSome, OnOk}
use Rattle.std.specs.Global.{Vec}
use Rattle.std.specs.Prelude.{Result, Err}
use Rattle.std.specs.Io.KnownBytes.{Consumes}
use Rattle.htl_device.specs.States.{SourceState}
use Rattle.htl_device.specs.declared.source.TheConstants.{MAX_READ_LEN}
use Rattle.htl_segment.specs.Hexadecimal.{WritesBytes, digits_of, hex_fault, is_foreign}
use Rattle.htl_segment.specs.declared.hexadecimal.HexFault.TheVariants as texts
use Rattle.htl_reading.specs.declared.digits.DigitsFault.{DigitsFault}
use Rattle.htl_reading.specs.declared.digits.DigitsFault.TheVariants.{Foreign, Odd, Read, NoMemory}

-- The first foreign byte of the text stands at this place, and at most one read's bytes were read from there on.
pub record StopsAtForeign (given left : Option (List ℕ)) (place : ℕ) : Type 0 where
  pub first : IfSome given (λ known. position is_foreign known ≡ Some place)
  pub read : List ℕ
  pub consumed : Consumes given left read
  pub few : length read ≤ place + MAX_READ_LEN

-- How a source of these bytes is read by a call that ends with this result, and in which at most `most` reads give bytes.
pub record ReadsDigits (most : ℕ) (given : Option (List ℕ)) (old new : SourceState) (result : Result (Vec ℕ) DigitsFault) : Type 0 where
  pub ok : IfOk result (λ bytes. IfSome given (λ known. WritesBytes known bytes.items))
  pub ended : OnOk result (new.ended ≡ true)
  pub foreign : (place : ℕ) → result ≡ Err (Foreign place) → StopsAtForeign given new.remaining place
  -- An odd number of digits is found only at the end.
  pub odd : result ≡ Err Odd → (new.ended ≡ true) × IfSome given (λ known. hex_fault known ≡ Some texts.Odd)
  pub reported : new.failed ≡ true → result ≡ Err Read
  -- Memory was refused: a digit was read, and the end was not found.
  pub memory :
      result ≡ Err NoMemory
      → (new.ended ≡ false) × (read : List ℕ) × Consumes given new.remaining read × (0 < length (digits_of read))
  pub failed : result ≡ Err Read → (new.failed ≡ true) ⊎ ((most ≤ new.good_reads) × IfSome given (λ known. most ≤ length known))
  pub bounded : new.good_reads ≤ old.good_reads + most
  pub tails : new.tails ≡ old.tails
