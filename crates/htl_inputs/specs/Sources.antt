-- What is reported of a source, and how far sources are read (this project's own). What a source gives is known where it reports its bytes.
use Rattle.std.specs.Prelude.{◌≡◌, ◌<◌, ◌≤◌, ◌+◌, ◌⊎◌, ⊤, ℕ, Bool, true, false, List, length, map, slice_get}
use Rattle.std.specs.Prelude.{Option, Some, IfSome, Result, Err}
use Rattle.std.specs.Io.KnownBytes.{Consumes}
use Rattle.htl_device.specs.declared.whole.TheConstants.{MAX_READS}
use Rattle.htl_command.specs.declared.question.InputForm.{InputForm}
use Rattle.htl_segment.specs.Bundles.{RestAt}
use Rattle.htl_segment.specs.Hexadecimal.{digits_of}
use Rattle.htl_reading.specs.Sources.{IsReadToFault}
use Rattle.htl_inputs.specs.Inputs.{AsksMemory, IsReportedOfInput}
use Rattle.htl_inputs.specs.declared.fault.RunFault.{RunFault}
use Rattle.htl_inputs.specs.declared.fault.RunFault.TheVariants.{Workers, Segment, Hex, Text, Read, Memory}

-- Memory is asked for to keep what was read: digits, and of bytes the last, which more may make a segment of.
abbrev pub KeepsSome : Bool → List ℕ → Type 0
KeepsSome true read = 0 < length (digits_of read)
KeepsSome false read = (offset : ℕ) × RestAt read offset

-- What is reported of the source at a place that gave some of these bytes, has others left, and whose end was found or not.
-- While its end isn't found, memory is asked for to keep what was read too.
abbrev pub IsReportedOfSource : InputForm → Option (List ℕ) → Bool → ℕ → List ℕ → RunFault → Type 0
IsReportedOfSource form left ended place input (Read at) = at ≡ place
IsReportedOfSource form left ended place input Memory =
    AsksMemory form.hex form.partial input ⊎ ((ended ≡ false) × (read : List ℕ) × Consumes (Some input) left read × KeepsSome form.hex read)
IsReportedOfSource form left ended place input fault = IsReportedOfInput form place input fault

-- what is reported of the source at a place, where `lefts` are left of the sources, and `ends` says which ends were found
abbrev pub IsReportedAt : InputForm → List (Option (List ℕ)) → List Bool → ℕ → List ℕ → RunFault → Type 0
IsReportedAt form lefts ends place input fault =
    (left : Option (List ℕ)) × (ended : Bool) × (slice_get lefts place ≡ Some left) × (slice_get ends place ≡ Some ended)
    × IsReportedOfSource form left ended place input fault

-- the test is true of the element at the place
abbrev pub IsTrueAt : List Bool → ℕ → Type 0
IsTrueAt tests place = slice_get tests place ≡ Some true

-- So many reads of the source at the place gave bytes that it was read no further. It has as many bytes, if it reports them.
abbrev pub IsEndless : List ℕ → List (Option (List ℕ)) → ℕ → Type 0
IsEndless reads known place =
    (n : ℕ) × (slice_get reads place ≡ Some n) × (MAX_READS ≤ n)
    × (given : Option (List ℕ)) × (slice_get known place ≡ Some given) × IfSome given (λ bytes. MAX_READS ≤ length bytes)

-- a run that ends with the fault doesn't read the input at the place
abbrev pub EndsBefore : RunFault → ℕ → Type 0
EndsBefore Workers place = ⊤
EndsBefore (Segment input offset fault) place = input < place
EndsBefore (Hex input fault) place = input < place
EndsBefore (Text input line fault event) place = input < place
EndsBefore (Read input) place = input < place
EndsBefore fault place = ⊥

-- Sources are read one after another: where one was read, those before it were read to their ends.
abbrev pub AreReadInOrder : {R : Type 0} → (R → Bool) → List R → List R → Type 0
AreReadInOrder has_ended old new =
    (earlier later : ℕ) → earlier < later → IsTrueAt (map has_ended new) earlier ⊎ (slice_get new later ≡ slice_get old later)

-- at most so many reads of each source gave bytes
abbrev pub AreReadWithin : List ℕ → List ℕ → Type 0
AreReadWithin before after =
    (place old new : ℕ) → slice_get before place ≡ Some old → slice_get after place ≡ Some new → new ≤ old + MAX_READS

-- Each source of bytes was read so many bytes further at most than what has no fault.
abbrev pub AreReadToFault : ℕ → List (Option (List ℕ)) → List (Option (List ℕ)) → Type 0
AreReadToFault most known lefts =
    (place : ℕ) (given left : Option (List ℕ)) → slice_get known place ≡ Some given → slice_get lefts place ≡ Some left
    → IsReadToFault most given left

-- a read that failed is reported
abbrev pub ReportsFailed : {S : Type 0} → List Bool → Result S RunFault → Type 0
ReportsFailed failed result = (place : ℕ) → IsTrueAt failed place → result ≡ Err (Read place)

-- what was read of the source of bytes at a place has no fault
abbrev pub ReadsNoFault : List (Option (List ℕ)) → List (Option (List ℕ)) → ℕ → Type 0
ReadsNoFault known lefts place =
    (given left : Option (List ℕ)) → slice_get known place ≡ Some given → slice_get lefts place ≡ Some left → IsReadToFault 0 given left
