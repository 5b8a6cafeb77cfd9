-- Which segments the inputs of a run encode, and which input is refused first (this project's own).
use Rattle.std.specs.Prelude.{◌≡◌, ◌<◌, ◌⊎◌, ℕ, Bool, true, false, List, [], ◌∷◌, ◌++◌, length, take, slice_get, Option, Some, None}
use Rattle.std.specs.Prelude.{Contains, if◌then◌else◌}
use Rattle.htl_segment.specs.Content.{Content}
use Rattle.htl_segment.specs.Hexadecimal.{WritesBytes, digits_of, hex_fault}
use Rattle.htl_segment.specs.Bundles.{Splits, IsRest, RestAt, SegmentAt, bundle, is_early_end}
use Rattle.htl_segment.specs.Faults.{first_fault}
use Rattle.htl_segment.specs.declared.fault.Fault.{Fault}
use Rattle.htl_segment.specs.declared.fault.Fault.TheVariants.{Magic}
use Rattle.htl_segment.specs.declared.hexadecimal.HexFault.{HexFault}
use Rattle.htl_command.specs.declared.question.InputForm.{InputForm}
use Rattle.htl_reading.specs.Sources.{begins_header}
use Rattle.htl_inputs.specs.declared.fault.RunFault.{RunFault}
use Rattle.htl_inputs.specs.declared.fault.RunFault.TheVariants.{Segment, Hex, Memory}

-- the bytes of an input, which is these bytes or writes them in hexadecimal
abbrev pub HasBytes : Bool → List ℕ → List ℕ → Type 0
HasBytes false input bytes = bytes ≡ input
HasBytes true input bytes = WritesBytes input bytes

-- What may be left after the segments of an input: nothing; or, where inputs may be partial, bytes that end within a segment and begin as
-- a header does.
abbrev pub MayBeLeft : Bool → List ℕ → Type 0
MayBeLeft false rest = rest ≡ []
MayBeLeft true rest = IsRest rest × (begins_header rest ≡ true)

-- the input's bytes are those of these segments, one after another, and what may be left
pub record Decodes (form : InputForm) (input : List ℕ) (segments : List Content) : Type 0 where
  pub bytes : List ℕ
  pub has : HasBytes form.hex input bytes
  pub rest : List ℕ
  pub splits : Splits bytes segments rest
  pub left : MayBeLeft form.partial rest

-- the segments of all inputs, those of the first input first
abbrev pub DecodeAll : InputForm → List (List ℕ) → List Content → Type 0
DecodeAll form [] segments = segments ≡ []
DecodeAll form (input ∷ more) segments =
    (first later : List Content) × Decodes form input first × DecodeAll form more later × (segments ≡ first ++ later)

-- Which fault is reported of bytes that begin with no segment, by their first one: just that. But where inputs may be partial, bytes that
-- end within a segment have none if they begin as a header does, and else the wrong magic.
abbrev pub reported_of : Bool → List ℕ → Fault → Option Fault
reported_of false rest first = Some first
reported_of true rest first = if is_early_end first then (if begins_header rest then None else Some Magic) else Some first

-- Behind some segments, at this offset of the input's bytes, stand bytes that begin with none, and this fault is reported of them.
pub record HasBundleFault (form : InputForm) (input : List ℕ) (offset : ℕ) (fault : Fault) : Type 0 where
  pub bytes : List ℕ
  pub has : HasBytes form.hex input bytes
  pub before : List Content
  pub rest : List ℕ
  pub splits : Splits bytes before rest
  pub offset_is : offset ≡ length (bundle before)
  pub some : 0 < length rest
  pub first : Fault
  pub first_is : first_fault rest ≡ Some first
  pub reported : reported_of form.partial rest first ≡ Some fault

-- the input is a text that writes no bytes
abbrev pub HasHexFault : Bool → List ℕ → HexFault → Type 0
HasHexFault hex input fault = (hex ≡ true) × (hex_fault input ≡ Some fault)

-- the input ends within a segment that begins at this offset, as it may where inputs may be partial
abbrev pub IsCutAt : Bool → List ℕ → ℕ → Type 0
IsCutAt partial input offset = (partial ≡ true) × (there : RestAt input offset) × MayBeLeft true there.rest

-- Memory is asked for where there are digits without a fault, and where a segment begins, also one that is cut where inputs may be partial.
abbrev pub AsksMemory : Bool → Bool → List ℕ → Type 0
AsksMemory true partial input = (hex_fault input ≡ None) × (0 < length (digits_of input))
AsksMemory false partial input = (offset : ℕ) × (SegmentAt input offset ⊎ IsCutAt partial input offset)

-- what is reported of the input at a place: its first fault, and out of memory only where it is asked for
abbrev pub IsReportedOfInput : InputForm → ℕ → List ℕ → RunFault → Type 0
IsReportedOfInput form place input (Segment at offset fault) = (at ≡ place) × HasBundleFault form input offset fault
IsReportedOfInput form place input (Hex at fault) = (at ≡ place) × HasHexFault form.hex input fault
IsReportedOfInput form place input Memory = AsksMemory form.hex form.partial input
IsReportedOfInput form place input other = ⊥

-- the inputs before one are decoded, and this is reported of that one
pub record StopsAtInput (form : InputForm) (Reported : ℕ → List ℕ → RunFault → Type 0) (inputs : List (List ℕ))
    (fault : RunFault) : Type 0 where
  pub place : ℕ
  pub input : List ℕ
  pub here : slice_get inputs place ≡ Some input
  pub segments : List Content
  pub before : DecodeAll form (take place inputs) segments
  pub reported : Reported place input fault

-- the input at a place has the segment
pub record HasSegment (form : InputForm) (inputs : List (List ℕ)) (place : ℕ) (s : Content) : Type 0 where
  pub input : List ℕ
  pub here : slice_get inputs place ≡ Some input
  pub own : List Content
  pub decoded : Decodes form input own
  pub has : Contains own s
