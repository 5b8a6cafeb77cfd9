-- What a dump writes (this project's own): the text of every segment of its inputs, or of those before a fault.
use Rattle.std.specs.Prelude.{◌≡◌, ◌⊎◌, ◌<◌, ℕ, Bool, true, false, List, [], ◌++◌, flat_map, length, map, slice_get, take}
use Rattle.std.specs.Prelude.{Option, Some, Result, Ok, Err}
use Rattle.std.specs.Io.KnownBytes.{Appends, Consumes}
use Rattle.htl_device.specs.Devices.{AppendsPrefix}
use Rattle.htl_device.specs.States.{IfKnown, SinkState, SourceState, ends, lefts}
use Rattle.htl_command.specs.declared.question.InputForm.{InputForm}
use Rattle.htl_segment.specs.Content.{Content}
use Rattle.htl_segment.specs.Bundles.{bundle, IsRest, Splits}
use Rattle.htl_segment.specs.Hexadecimal.{digits_of}
use Rattle.htl_text.specs.Texts.{segment_text}
use Rattle.htl_inputs.specs.Inputs.{AsksMemory, DecodeAll, HasBytes, IsReportedOfInput}
use Rattle.htl_inputs.specs.CutInputs.{AreCut}
use Rattle.htl_inputs.specs.Readings.{AreRead, AskForReaders}
use Rattle.htl_inputs.specs.declared.cuts.CutInputs.{CutInputs}
use Rattle.htl_inputs.specs.declared.fault.RunFault.{RunFault}
use Rattle.htl_inputs.specs.declared.fault.RunFault.TheVariants.{Segment, Hex, Read, Memory, Write}

-- the texts of segments, one after another
abbrev pub texts_of : List Content → List ℕ
texts_of segments = flat_map segment_text segments

-- the known bytes of a sink got the texts of the segments of all inputs
abbrev pub Dumps : InputForm → List (List ℕ) → Option (List ℕ) → Option (List ℕ) → Type 0
Dumps form inputs old new = (segments : List Content) × DecodeAll form inputs segments × Appends old new (texts_of segments)

-- the failure of a write is what is reported
abbrev pub is_failed_write : {S : Type 0} → Result S RunFault → Bool
is_failed_write (Err Write) = true
is_failed_write other = false

-- for what memory is asked before an input is dumped, of what was read of it: all bytes, and of a text in hexadecimal the digits
abbrev pub kept_of : Bool → List ℕ → List ℕ
kept_of true read = digits_of read
kept_of false read = read

-- What is reported of the source at a place that gave some of the input's bytes, has others left, and whose end was
-- found or not. Bytes are dumped as they come, and so memory is refused or a write fails before their end is found.
abbrev pub IsReportedOfDump : InputForm → Option (List ℕ) → Bool → ℕ → List ℕ → RunFault → Type 0
IsReportedOfDump form left ended place input (Read at) = at ≡ place
IsReportedOfDump form left ended place input Write = form.hex ≡ false → ended ≡ false
IsReportedOfDump form left ended place input Memory =
    ((form.hex ≡ true) × AsksMemory true form.partial input)
    ⊎ ((ended ≡ false) × (read : List ℕ) × Consumes (Some input) left read × (0 < length (kept_of form.hex read)))
IsReportedOfDump form left ended place input fault = IsReportedOfInput form place input fault

-- the input's bytes begin with those of these segments, if there are any
abbrev pub AreFirst : Bool → List ℕ → List Content → Type 0
AreFirst hex input segments = (segments ≡ []) ⊎ ((bytes rest : List ℕ) × HasBytes hex input bytes × Splits bytes segments rest)

-- The segments of an input before a fault: all before its offset; or, of bytes that could not be read on, all that
-- were read. A text in hexadecimal is read whole first.
abbrev pub AreBefore : Bool → Option (List ℕ) → List ℕ → RunFault → List Content → Type 0
AreBefore hex left input (Segment at offset fault) segments =
    (bytes rest : List ℕ) × HasBytes hex input bytes × Splits bytes segments rest × (offset ≡ length (bundle segments))
AreBefore false left input (Read at) segments =
    (read rest : List ℕ) × Consumes (Some input) left read × Splits read segments rest × IsRest rest
AreBefore true left input (Read at) segments = segments ≡ []
AreBefore hex left input (Hex at fault) segments = segments ≡ []
AreBefore hex left input other segments = AreFirst hex input segments

-- the texts of these segments were written, of which a failed write may have cut off the last bytes
abbrev pub AreWritten : RunFault → Option (List ℕ) → Option (List ℕ) → List Content → Type 0
AreWritten Write old new segments = AppendsPrefix old new (texts_of segments)
AreWritten fault old new segments = Appends old new (texts_of segments)

-- Why the dump of an input ends before its end, and what was written of it.
pub record InputStops (form : InputForm) (left : Option (List ℕ)) (ended : Bool) (place : ℕ) (input : List ℕ)
    (old new : Option (List ℕ)) (fault : RunFault) : Type 0 where
  pub reported : IsReportedOfDump form left ended place input fault
  pub segments : List Content
  pub are : AreBefore form.hex left input fault segments
  pub written : AreWritten fault old new segments

-- Why a dump ends: at one of its inputs, after the segments of those before it and some of its own. The later ones aren't read.
pub record DumpStops (form : InputForm) (inputs : List (List ℕ)) (lefts : List (Option (List ℕ))) (ends : List Bool)
    (old new : Option (List ℕ)) (fault : RunFault) : Type 0 where
  pub place : ℕ
  pub input : List ℕ
  pub here : slice_get inputs place ≡ Some input
  pub left : Option (List ℕ)
  pub left_is : slice_get lefts place ≡ Some left
  pub ended : Bool
  pub ended_is : slice_get ends place ≡ Some ended
  pub before : List Content
  pub decoded : DecodeAll form (take place inputs) before
  pub reported : IsReportedOfDump form left ended place input fault
  pub segments : List Content
  pub are : AreBefore form.hex left input fault segments
  pub written : AreWritten fault old new (before ++ segments)
  pub unread : (later : ℕ) → place < later → slice_get lefts later ≡ slice_get (map Some inputs) later

-- The texts of all segments of the inputs were written; or those of the segments before what is reported.
abbrev pub EndsDumping : InputForm → List (List ℕ) → List SourceState → Option (List ℕ) → Option (List ℕ)
    → Result (Option CutInputs) RunFault → Type 0
EndsDumping form texts new before after (Ok cut) = Dumps form texts before after × AreCut form.hex texts cut
EndsDumping form texts new before after (Err fault) = DumpStops form texts (lefts new) (ends new) before after fault

-- One worker reads each source.
pub record IsDumpedFrom (form : InputForm) (old new : List SourceState) (before after : SinkState)
    (result : Result (Option CutInputs) RunFault) : Type 0 where
  pub outcome : IfKnown old (λ texts. EndsDumping form texts new before.contents after.contents result)
  pub failed : after.failed ≡ is_failed_write result
  pub reading : AreRead form.hex old new result
  pub readers : AskForReaders form.hex 1 old new
