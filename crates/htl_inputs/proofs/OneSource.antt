-- What is reported of one source of bytes is reported as a fault of the run, which reads the source so.
use Rattle.std.proofs.Common.{◌≡◌, ◌≢◌, ◌⊎◌, ◌<◌, ◌≤◌, ◌+◌, ℕ, Bool, true, false, List, length, refl, ap, inl, inr}
use Rattle.std.proofs.Common.{Option, Some, None, IfSome, Result, Ok, Err}
use Rattle.std.specs.Prelude.{IfErr, OnOk}
use Rattle.htl_device.specs.States.{SourceState, good_reads, has_ended, has_failed, remaining}
use Rattle.htl_command.specs.declared.question.InputForm.{InputForm}
use Rattle.htl_device.specs.declared.whole.ReadFault.{ReadFault}
use Rattle.htl_device.specs.declared.whole.ReadFault.TheVariants as reads
use Rattle.htl_device.specs.declared.whole.TheConstants.{MAX_READS}
use Rattle.htl_reading.specs.declared.fault.SourceFault.{SourceFault}
use Rattle.htl_reading.specs.declared.fault.SourceFault.TheVariants as sources
use Rattle.htl_reading.specs.Sources.{IsReportedOfBundle, IsSourceRead}
use Rattle.htl_inputs.specs.declared.fault.RunFault.{RunFault}
use Rattle.htl_inputs.specs.declared.fault.RunFault.TheVariants.{Read, Write}
use Rattle.htl_inputs.specs.Ends.{IsSegmentOf}
use Rattle.htl_inputs.specs.Faults.{of_read, of_source}
use Rattle.htl_inputs.specs.Reads.{IsRead, NamesOnly, NeverRead}
use Rattle.htl_inputs.specs.Sources.{EndsBefore, IsReportedOfSource}
use Rattle.htl_inputs.proofs.InputLaws.{late_reported}

abbrev ill : {S : Type 0} → RunFault → Result S RunFault
ill fault = Err fault

abbrev well : {S : Type 0} → S → Result S RunFault
well value = Ok value

abbrev told : {S : Type 0} → SourceFault → Result S SourceFault
told fault = Err fault

abbrev made_of : {S : Type 0} → S → Result S SourceFault
made_of value = Ok value

abbrev refused : {S : Type 0} → ReadFault → Result S ReadFault
refused fault = Err fault

reported_source : (form : InputForm) (left : Option (List ℕ)) (ended : Bool) (place : ℕ) (bytes : List ℕ) (fault : SourceFault)
    → form.hex ≡ false → IsReportedOfBundle left ended bytes fault → IsReportedOfSource form left ended place bytes (of_source place fault)
reported_source form left ended place bytes (sources.Segment offset fault) is found = (
  refl,
  record {
    bytes = bytes;
    has = rw is refl;
    before = found.0.before;
    rest = found.0.rest;
    splits = found.0.splits;
    offset_is = found.0.offset_is;
    some = found.0.some;
    first = fault;
    first_is = found.0.fault_is;
    reported = late_reported form.partial found.0.rest fault found.1;
  },
)
reported_source form left ended place bytes sources.Read is found = refl
reported_source form left ended place bytes sources.NoMemory is found =
    elim found [
      | inl segment ↦ inl (rw is (segment.0, inl segment.1))
      | inr rest ↦ inr (rest.0, rest.1, rest.2, rw is (rest.3, rest.4))
    ]

-- what is reported, where the bytes are known
pub reported_bytes_of : (form : InputForm) (first left : Option (List ℕ)) (ended : Bool) (place : ℕ) (fault : SourceFault)
    → form.hex ≡ false → IfSome first (λ bytes. IsReportedOfBundle left ended bytes fault)
    → IfSome first (λ bytes. IsReportedOfSource form left ended place bytes (of_source place fault))
reported_bytes_of form None left ended place fault is found = tt
reported_bytes_of form (Some bytes) left ended place fault is found = reported_source form left ended place bytes fault is found

-- only a failed read is reported as one
pub read_of : (place at : ℕ) (fault : SourceFault) → of_source place fault ≡ Read at → (fault ≡ sources.Read) × (at ≡ place)
read_of place at (sources.Segment offset fault) is = absurd cc
read_of place at sources.Read is = (refl, cc is)
read_of place at sources.NoMemory is = absurd cc

pub names_place : (place : ℕ) (fault : SourceFault) (later : ℕ) → EndsBefore (of_source place fault) later → place < later
names_place place (sources.Segment offset fault) later before = before
names_place place sources.Read later before = before
names_place place sources.NoMemory later before = absurd before

-- no fault of a source is a failed write
pub never_write : (place : ℕ) (fault : SourceFault) → of_source place fault ≢ Write
never_write place (sources.Segment offset fault) is = cc is
never_write place sources.Read is = cc is
never_write place sources.NoMemory is = cc is

-- ---- how one source is read

always : {S E P : Type 0} (result : Result S E) → P → OnOk result P
always (Ok value) holds = holds
always (Err fault) holds = tt

module _ {T : Type 0} (place : ℕ) (old new : SourceState) where
  -- so it is read as a source of the run, whatever is made of its segments
  decoded_well : {S : Type 0} {workers : ℕ} (made : S) (value : T)
      → IsSourceRead workers MAX_READS (remaining old) old new (made_of made)
      → IsRead false MAX_READS place old new (well value)
  decoded_well made value is = record {
    ended = is.ended;
    reported = λ failed. absurd (cc (is.reported failed));
    read = λ at given. absurd (cc given);
    no_fault = λ at given. absurd (cc given);
    bounded = is.bounded;
    named = tt;
    to_fault = λ bytes. is.to_fault;
  }

  -- or as one that ends within a segment and may not
  decoded_early : {S : Type 0} {workers : ℕ} (made : S) (fault : RunFault) → IsSegmentOf place fault
      → IsSourceRead workers MAX_READS (remaining old) old new (made_of made)
      → IsRead false MAX_READS place old new (ill {S = T} fault)
  decoded_early made fault segment is = rw (segment.2) record {
    ended = tt;
    reported = λ failed. absurd (cc (is.reported failed));
    read = λ at given. absurd (cc given);
    no_fault = λ at given. absurd (cc given);
    bounded = is.bounded;
    named = λ later before. before;
    to_fault = λ bytes. is.to_fault;
  }

  -- a source that was read by a call that ends well is read so by one that ends well or for a fault of its segments
  pub accepted_read : {S : Type 0} {workers : ℕ} (made : S) (result : Result T RunFault) → IfErr result (IsSegmentOf place)
      → IsSourceRead workers MAX_READS (remaining old) old new (made_of made)
      → IsRead false MAX_READS place old new result
  accepted_read made (Ok value) segment is = decoded_well made value is
  accepted_read made (Err fault) segment is = decoded_early made fault segment is

  -- or as one with a fault
  pub decoded_ill : {S : Type 0} {workers : ℕ} (fault : SourceFault)
      → IsSourceRead workers MAX_READS (remaining old) old new
      (told {S = S} fault)
      → IsRead false MAX_READS place old new (ill {S = T} (of_source place fault))
  decoded_ill {S} fault is = record {
    ended = tt;
    reported = λ failed. (let same : fault ≡ sources.Read = cc (is.reported failed) in rw same refl);
    read = λ at given.
        let read = read_of place at fault (cc given) in
        (read.1, is.read (ap (told {S = S}) read.0));
    no_fault = λ at given bytes. is.no_fault (ap (told {S = S}) (read_of place at fault (cc given)).0);
    bounded = is.bounded;
    named = λ later before. names_place place fault later before;
    to_fault = λ bytes. is.to_fault;
  }

  -- a text was gathered whole, and this came of it
  pub gathered : (result : Result T RunFault) → has_ended new ≡ true → has_failed new ≡ false → good_reads new ≤ good_reads old + MAX_READS
      → NeverRead result → NamesOnly place result
      → IsRead true MAX_READS place old new result
  gathered result ended fine bounded never named = record {
    ended = always result ended;
    reported = λ failed. absurd (cc (fine, failed));
    read = λ at given. absurd (never at given);
    no_fault = λ at given. absurd (never at given);
    bounded = bounded;
    named = named;
    to_fault = λ bytes. absurd (cc bytes);
  }

  -- or it could not be gathered
  pub ungathered : {S : Type 0} (fault : ReadFault) → (has_failed new ≡ true → refused {S = S} fault ≡ Err reads.Failed)
      → (fault ≡ reads.NoMemory) ⊎ ((has_failed new ≡ true)
      ⊎ ((MAX_READS ≤ good_reads new) × IfSome (remaining old) (λ xs. MAX_READS ≤ length xs)))
      → good_reads new ≤ good_reads old + MAX_READS
      → IsRead true MAX_READS place old new (ill {S = T} (of_read place fault))
  ungathered reads.NoMemory reported failed bounded = record {
    ended = tt;
    reported = λ is. absurd (cc (reported is));
    read = λ at given. absurd (cc given);
    no_fault = λ at given. absurd (cc given);
    bounded = bounded;
    named = λ later before. absurd before;
    to_fault = λ bytes. absurd (cc bytes);
  }
  ungathered reads.Failed reported failed bounded = record {
    ended = tt;
    reported = λ is. refl;
    read = λ at given.
        let same : at ≡ place = cc given in
        (same, elim failed [ inl memory ↦ absurd (cc memory) | inr read ↦ read ]);
    no_fault = λ at given bytes. absurd (cc bytes);
    bounded = bounded;
    named = λ later before. before;
    to_fault = λ bytes. absurd (cc bytes);
  }
