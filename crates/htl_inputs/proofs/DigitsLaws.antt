-- A source of digits gives the bytes that these write, or its fault is reported as one of the run, which reads the source so.
use Rattle.std.proofs.Common.{◌≡◌, ◌<◌, ◌%◌, ◌==◌, ℕ, Bool, true, false, List, [], length, refl, sym, ap, inl, inr, ◌∙◌}
use Rattle.std.proofs.Common.{IfErr, IfOk, IfSome, Option, None, Some, Result, Ok, Err, Vec, Global, position}
use Rattle.std.specs.Prelude.{if◌then◌else◌}
use Rattle.std.proofs.lemmas.List.{nil_from_length}
use Rattle.htl_command.specs.declared.question.InputForm.{InputForm}
use Rattle.htl_device.specs.States.{SourceState}
use Rattle.htl_device.specs.declared.whole.TheConstants.{MAX_READS}
use Rattle.htl_reading.specs.Digits.{ReadsDigits}
use Rattle.htl_reading.specs.declared.digits.DigitsFault.{DigitsFault}
use Rattle.htl_reading.specs.declared.digits.DigitsFault.TheVariants.{Foreign, Odd, Read, NoMemory}
use Rattle.hex.specs.Hex.{decode_pairs}
use Rattle.htl_segment.specs.Hexadecimal.{WritesBytes, digits_of, fault_of_digits, hex_fault, is_foreign}
use Rattle.htl_segment.specs.declared.hexadecimal.HexFault.{HexFault}
use Rattle.htl_segment.specs.declared.hexadecimal.HexFault.TheVariants as codes
use Rattle.htl_inputs.specs.Faults.{of_digits}
use Rattle.htl_inputs.specs.Inputs.{HasBytes, IsReportedOfInput}
use Rattle.htl_inputs.specs.Reads.{FailsOnly, IsRead}
use Rattle.htl_inputs.specs.Sources.{EndsBefore, IsReportedOfSource}
use Rattle.htl_inputs.specs.declared.fault.RunFault.{RunFault}
use Rattle.htl_inputs.specs.declared.fault.RunFault.TheVariants as faults

-- ---- the bytes that a text writes

odd_or_none : (b : Bool) → (if b then Some codes.Odd else None) ≡ Some codes.NoMemory → ⊥
odd_or_none true is = cc is
odd_or_none false is = cc is

no_memory : (found : Option ℕ) (digits : List ℕ) → fault_of_digits found digits ≡ Some codes.NoMemory → ⊥
no_memory (Some place) digits is = cc is
no_memory None digits is = odd_or_none (length digits % 2 == 1) is

-- what the decoding of a text says of its result where it is refused
module _ (text : List ℕ) where
  abbrev pub Refuses : Result (Vec ℕ Global) HexFault → Type 0
  Refuses result = (fault : HexFault) → hex_fault text ≡ Some fault → result ≡ Err fault

  no_fault : (found : Option HexFault) → hex_fault text ≡ found → Refuses (Err codes.NoMemory) → hex_fault text ≡ None
  no_fault None is refuses = is
  no_fault (Some fault) is refuses =
      let memory : fault ≡ codes.NoMemory = cc (refuses fault is) in
      absurd (no_memory (position is_foreign text) (digits_of text) (is ∙ ap Some memory))

  -- without a digit there are no bytes, where memory was refused too
  pub nothing_written : Refuses (Err codes.NoMemory) → length (digits_of text) ≡ 0 → WritesBytes text []
  unfolding decode_pairs
  nothing_written refuses none =
      let empty : digits_of text ≡ [] = nil_from_length (digits_of text) none in
      (no_fault (hex_fault text) refl refuses, rw empty refl)

abbrev refused : DigitsFault → Result (Vec ℕ Global) DigitsFault
refused fault = Err fault

abbrev ill : {S : Type 0} → RunFault → Result S RunFault
ill fault = Err fault

names_place : (place : ℕ) (fault : DigitsFault) (later : ℕ) → EndsBefore (of_digits place fault) later → place < later
names_place place (Foreign at) later before = before
names_place place Odd later before = before
names_place place Read later before = before
names_place place NoMemory later before = absurd before

-- ---- a source that was read

has_bytes : (form : InputForm) (input bytes : List ℕ) → form.hex ≡ true → WritesBytes input bytes → HasBytes form.hex input bytes
has_bytes form input bytes hex is = rw hex is

-- its bytes are those that its digits write
pub ok_known : {A E : Type 0} (P : A → List ℕ → Type 0) (form : InputForm) (given : Option (List ℕ)) (bytes : List ℕ) (result : Result A E)
    → form.hex ≡ true → IfSome given (λ known. WritesBytes known bytes)
    → ((input : List ℕ) → HasBytes form.hex input bytes → IfOk result (λ a. P a input)) → IfOk result (λ a. IfSome given (P a))
ok_known P form None bytes (Ok a) hex written each = tt
ok_known P form (Some known) bytes (Ok a) hex written each = each known (has_bytes form known bytes hex written)
ok_known P form given bytes (Err e) hex written each = tt

pub err_known : {A E : Type 0} (P : E → List ℕ → Type 0) (form : InputForm) (given : Option (List ℕ)) (bytes : List ℕ) (result : Result A E)
    → form.hex ≡ true → IfSome given (λ known. WritesBytes known bytes)
    → ((input : List ℕ) → HasBytes form.hex input bytes → IfErr result (λ e. P e input)) → IfErr result (λ e. IfSome given (P e))
err_known P form given bytes (Ok a) hex written each = tt
err_known P form None bytes (Err e) hex written each = tt
err_known P form (Some known) bytes (Err e) hex written each = each known (has_bytes form known bytes hex written)

-- what is reported of an input is reported of a source that gave all of it
source_told : (form : InputForm) (left : Option (List ℕ)) (ended : Bool) (place : ℕ) (input : List ℕ) (fault : RunFault)
    → IsReportedOfInput form place input fault → IsReportedOfSource form left ended place input fault
source_told form left ended place input (faults.Read at) told = absurd told
source_told form left ended place input faults.Memory told = inl told
source_told form left ended place input fault told = told

pub told_known : {A : Type 0} (form : InputForm) (left : Option (List ℕ)) (ended : Bool) (place : ℕ) (given : Option (List ℕ)) (bytes : List ℕ)
    (result : Result A RunFault) → form.hex ≡ true → IfSome given (λ known. WritesBytes known bytes)
    → ((input : List ℕ) → HasBytes form.hex input bytes → IfErr result (IsReportedOfInput form place input))
    → IfErr result (λ fault. IfSome given (λ input. IsReportedOfSource form left ended place input fault))
told_known form left ended place given bytes (Ok a) hex written each = tt
told_known form left ended place None bytes (Err fault) hex written each = tt
told_known form left ended place (Some known) bytes (Err fault) hex written each =
    source_told form left ended place known fault (each known (has_bytes form known bytes hex written))

-- ---- the fault of a source

module _ (old new : SourceState) (form : InputForm) (place : ℕ) where
  pub digits_reported : (given : Option (List ℕ)) (fault : DigitsFault) → form.hex ≡ true
      → ReadsDigits MAX_READS given old new (refused fault)
      → IfSome given (λ bytes. IsReportedOfSource form new.remaining new.ended place bytes (of_digits place fault))
  digits_reported None fault hex is = tt
  digits_reported (Some bytes) (Foreign at) hex is =
      (refl, (hex, ap (λ found. fault_of_digits found (digits_of bytes)) ((is.foreign at refl).first)))
  digits_reported (Some bytes) Odd hex is = (refl, (hex, (is.odd refl).1))
  digits_reported (Some bytes) Read hex is = refl
  digits_reported (Some bytes) NoMemory hex is = let kept = is.memory refl in inr (kept.0, kept.1, kept.2, rw hex (kept.3))

  fails_only : {S : Type 0} (fault : DigitsFault)
      → ReadsDigits MAX_READS old.remaining old new (refused fault)
      → FailsOnly {S = S} place new.failed new.good_reads old.remaining MAX_READS (ill (of_digits place fault))
  fails_only (Foreign byte) is = λ at same. absurd (cc same)
  fails_only Odd is = λ at same. absurd (cc same)
  fails_only Read is = λ at same. (cc same, is.failed refl)
  fails_only NoMemory is = λ at same. absurd (cc same)

  pub digits_read : {S : Type 0} (fault : DigitsFault) → form.hex ≡ true
      → ReadsDigits MAX_READS old.remaining old new (refused fault)
      → IsRead {S = S} form.hex MAX_READS place old new (ill (of_digits place fault))
  digits_read fault hex is = record {
    ended = tt;
    reported = λ failed. let same : fault ≡ Read = cc (is.reported failed) in ap (λ why. ill (of_digits place why)) same;
    read = fails_only fault is;
    no_fault = λ at same bytes. absurd (cc (sym hex ∙ bytes));
    bounded = is.bounded;
    named = names_place place fault;
    to_fault = λ bytes. absurd (cc (sym hex ∙ bytes));
  }
