-- For the clauses of private functions: how far a dump of bytes came, and how many inputs were cut so far.
use Rattle.std.specs.Prelude.{◌≡◌, ◌<◌, ◌+◌, ⊤, ℕ, Bool, true, false, List, ◌++◌, length, All, Option, Some, None}
use Rattle.std.specs.Prelude.{Result, IfSome, MatchResult}
use Rattle.std.specs.Io.KnownBytes.{Appends, Consumes}
use Rattle.htl_device.specs.States.{SourceState}
use Rattle.htl_command.specs.declared.question.InputForm.{InputForm}
use Rattle.htl_segment.specs.Content.{Content, Fits}
use Rattle.htl_segment.specs.Bundles.{bundle, IsRest, Splits}
use Rattle.htl_segment.specs.Faults.{first_fault}
use Rattle.htl_segment.specs.declared.fault.Fault.{Fault}
use Rattle.htl_reading.specs.declared.outcome.EarlyEnd.{EarlyEnd}
use Rattle.htl_inputs.specs.Inputs.{reported_of}
use Rattle.htl_inputs.specs.Ends.{IsInput}
use Rattle.htl_inputs.specs.declared.cuts.CutInputs.{CutInputs}
use Rattle.htl_inputs.specs.declared.fault.RunFault.{RunFault}
use Rattle.htl_inputs.specs.declared.fault.RunFault.TheVariants.{Segment, Memory, Write}
use Rattle.htl_convert.specs.Dumps.{AreWritten, InputStops, texts_of}

-- the texts of an input's segments were written, and it ends within one more or not
abbrev pub DumpsInput : InputForm → List ℕ → Option EarlyEnd → Option (List ℕ) → Option (List ℕ) → Type 0
DumpsInput form input end old new =
    (segments : List Content) × IsInput form input segments end × Appends old new (texts_of segments)

-- How the dump of the source at a place ends, where its bytes are known: with the texts of its segments, or before its end.
abbrev pub EndsInput : InputForm → ℕ → SourceState → SourceState → Option (List ℕ) → Option (List ℕ)
    → Result (Option EarlyEnd) RunFault → Type 0
EndsInput form place old new before after result =
    MatchResult result (λ end. IfSome old.remaining (λ bytes. DumpsInput form bytes end before after))
    (λ fault. IfSome old.remaining (λ bytes. InputStops form new.remaining new.ended place bytes before after fault))

-- the texts of segments at the front of the bytes were written, and the rest is left
pub record FrontDumped (bytes rest : List ℕ) (old new : Option (List ℕ)) : Type 0 where
  pub segments : List Content
  pub splits : Splits bytes segments rest
  pub written : Appends old new (texts_of segments)

-- why the dump of the input at a place ends at this offset, where the rest begins: not because it ends within a segment as it may
abbrev pub DumpEndsAt : Bool → ℕ → ℕ → List ℕ → RunFault → Type 0
DumpEndsAt partial place offset rest (Segment at there fault) =
    (at ≡ place) × (there ≡ offset) × (0 < length rest)
    × (first : Fault) × (first_fault rest ≡ Some first) × (reported_of partial rest first ≡ Some fault)
DumpEndsAt partial place offset rest Memory = first_fault rest ≡ None
DumpEndsAt partial place offset rest Write = Unit {0}
DumpEndsAt partial place offset rest other = ⊥

-- The dump of all bytes of an input ends before their end.
pub record WholeStops (form : InputForm) (place : ℕ) (bytes : List ℕ) (old new : Option (List ℕ)) (fault : RunFault) : Type 0 where
  pub segments : List Content
  pub rest : List ℕ
  pub splits : Splits bytes segments rest
  pub ends : DumpEndsAt form.partial place (length (bundle segments)) rest fault
  pub written : AreWritten fault old new segments

-- The dump of bytes that follow `start` others ends, whatever follows them.
pub record FrontStops (place start : ℕ) (bytes : List ℕ) (old new : Option (List ℕ)) (fault : RunFault) : Type 0 where
  pub segments : List Content
  pub rest : List ℕ
  pub splits : Splits bytes segments rest
  pub ends : (partial : Bool) (more : List ℕ) → DumpEndsAt partial place (start + length (bundle segments)) (rest ++ more) fault
  pub written : AreWritten fault old new segments

-- The segments of what a source gave were dumped, but for the last bytes, which more may make a segment of.
pub record DumpedSoFar (first now : Option (List ℕ)) (start : ℕ) (held : List ℕ) (old new : Option (List ℕ)) : Type 0 where
  pub segments : List Content
  pub fits : All Fits segments
  pub start_is : start ≡ length (bundle segments)
  pub is_rest : IsRest held
  pub given : Consumes first now (bundle segments ++ held)
  pub written : Appends old new (texts_of segments)

-- the inputs that are cut, with one more, the one at a place, if it is
abbrev pub with_input : Bool → ℕ → Option CutInputs → Option CutInputs
with_input false place cut = cut
with_input true place None = Some (record { first = place; others = 0 })
with_input true place (Some cut) = Some (record { first = cut.first; others = cut.others + 1 })

-- there are fewer other cut inputs than inputs before the place
abbrev pub OthersFit : Option CutInputs → ℕ → Type 0
OthersFit None place = ⊤
OthersFit (Some cut) place = cut.others < place
