-- What the texts of inputs encode, and why a run that encodes them ends (this project's own).
use Rattle.std.specs.Prelude.{IfErr, Result, Ok, Err}
use Rattle.std.specs.Prelude.{◌≡◌, ◌≢◌, ◌⊎◌, ◌<◌, ℕ, Bool, true, false, List, [], ◌∷◌, ◌++◌, length, slice_get, take, Option, Some}
use Rattle.std.specs.Io.KnownBytes.{Appends, Consumes}
use Rattle.hex.specs.Hex.{encode_lower}
use Rattle.htl_device.specs.Devices.{AppendsPrefix}
use Rattle.htl_device.specs.States.{IfKnown, SinkState, SourceState, ends, lefts}
use Rattle.htl_segment.specs.Content.{Content}
use Rattle.htl_segment.specs.Bundles.{bundle}
use Rattle.htl_text.specs.Encoded.{Encodes, event_line, FirstFault, IsRefused}
use Rattle.htl_text.specs.declared.fault.TextFault.TheVariants as texts
use Rattle.htl_inputs.specs.Readings.{AreRead, AskForReaders}
use Rattle.htl_inputs.specs.declared.fault.RunFault.{RunFault}
use Rattle.htl_inputs.specs.declared.fault.RunFault.TheVariants.{Text, Read, Memory, Write}
use Rattle.htl_convert.specs.Dumps.{is_failed_write}

-- the segments that the texts encode, those of the first text first
abbrev pub EncodeAll : List (List ℕ) → List Content → Type 0
EncodeAll [] segments = segments ≡ []
EncodeAll (text ∷ more) segments =
    (first later : List Content) × Encodes text first × EncodeAll more later × (segments ≡ first ++ later)

-- how bytes are written: as themselves, or in hexadecimal digits and a line feed
abbrev pub written_as : Bool → List ℕ → List ℕ
written_as false bytes = bytes
written_as true bytes = encode_lower bytes ++ 10 ∷ []

-- the known bytes of a sink got the bytes of the segments that the texts encode
abbrev pub EncodesInto : Bool → List (List ℕ) → Option (List ℕ) → Option (List ℕ) → Type 0
EncodesInto hex texts old new =
    (segments : List Content) × EncodeAll texts segments × Appends old new (written_as hex (bundle segments))

-- the known bytes of a sink got some first part of the bytes of the segments that the texts encode
abbrev pub EncodesPart : Bool → List (List ℕ) → Option (List ℕ) → Option (List ℕ) → Type 0
EncodesPart hex texts old new =
    (segments : List Content) × EncodeAll texts segments × AppendsPrefix old new (written_as hex (bundle segments))

-- What is reported of the source at a place that gave some of a text, has others left, and whose end was found or
-- not: the text's first fault, with the line of the event that it is about. Memory is asked for to keep what was read
-- while its end isn't found, and for a text that begins with a segment.
abbrev pub IsReportedOfText : Option (List ℕ) → Bool → ℕ → List ℕ → RunFault → Type 0
IsReportedOfText left ended place text (Text at line fault event) =
    (at ≡ place) × FirstFault text line fault × (event ≡ event_line text line fault)
IsReportedOfText left ended place text (Read at) = at ≡ place
IsReportedOfText left ended place text Memory =
    IsRefused text texts.NoMemory ⊎ ((ended ≡ false) × (read : List ℕ) × (0 < length read) × Consumes (Some text) left read)
IsReportedOfText left ended place text other = ⊥

-- The texts before one are encoded, and this is reported of that one.
pub record EncodingStops (inputs : List (List ℕ)) (lefts : List (Option (List ℕ))) (ends : List Bool) (fault : RunFault) : Type 0 where
  pub place : ℕ
  pub text : List ℕ
  pub here : slice_get inputs place ≡ Some text
  pub left : Option (List ℕ)
  pub left_is : slice_get lefts place ≡ Some left
  pub ended : Bool
  pub ended_is : slice_get ends place ≡ Some ended
  pub segments : List Content
  pub before : EncodeAll (take place inputs) segments
  pub reported : IsReportedOfText left ended place text fault

-- The bytes that the texts encode were written, or some first part of them where a write failed; or one of the texts is refused.
abbrev pub EndsEncoding : {S : Type 0} → Bool → List (List ℕ) → List SourceState → Option (List ℕ) → Option (List ℕ) → Result S RunFault
    → Type 0
EndsEncoding hex texts new before after (Ok done) = EncodesInto hex texts before after
EndsEncoding hex texts new before after (Err Write) = EncodesPart hex texts before after
EndsEncoding hex texts new before after (Err fault) = EncodingStops texts (lefts new) (ends new) fault

-- One worker reads each source.
pub record IsEncodedFrom {S : Type 0} (hex : Bool) (old new : List SourceState) (before after : SinkState) (result : Result S RunFault)
    : Type 0 where
  pub outcome : IfKnown old (λ texts. EndsEncoding hex texts new before.contents after.contents result)
  pub failed : after.failed ≡ is_failed_write result
  pub reading : AreRead true old new result
  pub readers : AskForReaders true 1 old new
  -- Nothing was written, unless a write failed.
  pub untouched : IfErr result (λ fault. fault ≢ Write → after ≡ before)
