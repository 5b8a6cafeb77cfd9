-- For the clauses of steps of a run: the last bytes of an input, which its segments leave.
use Rattle.std.specs.Prelude.{◌≡◌, ◌≢◌, ◌<◌, ℕ, true, List, [], length, Option, None, Some}
use Rattle.htl_command.specs.declared.question.InputForm.{InputForm}
use Rattle.htl_segment.specs.Content.{Content}
use Rattle.htl_segment.specs.Faults.{first_fault}
use Rattle.htl_segment.specs.declared.fault.Fault.{Fault}
use Rattle.htl_reading.specs.Sources.{EndsWithin, begins_header}
use Rattle.htl_reading.specs.declared.outcome.EarlyEnd.{EarlyEnd}
use Rattle.htl_inputs.specs.CutInputs.{HasEnd}
use Rattle.htl_inputs.specs.Inputs.{AsksMemory, Decodes, reported_of}
use Rattle.htl_inputs.specs.declared.fault.RunFault.{RunFault}
use Rattle.htl_inputs.specs.declared.fault.RunFault.TheVariants.{Segment}

-- Behind these segments the input ends within one more, as it may, or no bytes are left.
abbrev pub IsEnd : InputForm → List Content → List ℕ → Option EarlyEnd → Type 0
IsEnd form segments rest (Some end) = (form.partial ≡ true) × (begins_header rest ≡ true) × EndsWithin segments rest end
IsEnd form segments rest None = rest ≡ []

-- The input at a place ends within a segment and may not, which is its fault.
pub record IsEndRefused (form : InputForm) (place offset : ℕ) (rest : List ℕ) (fault : RunFault) : Type 0 where
  pub first : Fault
  pub told : Fault
  pub is : fault ≡ Segment place offset told
  pub some : 0 < length rest
  pub first_is : first_fault rest ≡ Some first
  pub reported : reported_of form.partial rest first ≡ Some told

-- the fault is one of a segment of the input at a place
abbrev pub IsSegmentOf : ℕ → RunFault → Type 0
IsSegmentOf place fault = (offset : ℕ) × (first : Fault) × (fault ≡ Segment place offset first)

-- the input is these segments, and ends within one more or not
pub record IsInput (form : InputForm) (input : List ℕ) (segments : List Content) (end : Option EarlyEnd) : Type 0 where
  pub decoded : Decodes form input segments
  pub ends : HasEnd form.hex input end
  pub asks : end ≢ None → AsksMemory form.hex form.partial input
