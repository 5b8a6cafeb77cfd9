-- Which two segments of its inputs the fault of a run is about (this project's own).
use Rattle.std.specs.Prelude.{◌≡◌, ◌≢◌, ℕ, ◌<◌, ◌≤◌, Bool, true, false, List, Contains, slice_get, Some, Result, Ok, Err}
use Rattle.htl_command.specs.declared.question.InputForm.{InputForm}
use Rattle.htl_event.specs.Events.{Event}
use Rattle.htl_segment.specs.Content.{Content}
use Rattle.htl_case.specs.Faults.{key_of}
use Rattle.htl_case.specs.declared.fault.CaseFault.{CaseFault}
use Rattle.htl_case.specs.declared.fault.CaseFault.TheVariants as cases
use Rattle.htl_inputs.specs.Inputs.{DecodeAll, HasSegment}
use Rattle.htl_inputs.specs.declared.fault.RunFault.{RunFault}
use Rattle.htl_inputs.specs.declared.fault.RunFault.TheVariants.{Case}
use Rattle.htl_main.specs.declared.origin.Origin.{Origin}
use Rattle.htl_main.specs.declared.origin.Between.{Between}
use Rattle.htl_main.specs.declared.origin.Between.TheVariants.{Nothing, Two, Unknown}
use Rattle.htl_main.specs.declared.refused.Refused.{Refused}

-- how a run ends, without where what its fault is about came from
abbrev pub by_fault : {S : Type 0} → Result S Refused → Result S RunFault
by_fault (Ok done) = Ok done
by_fault (Err refused) = Err refused.fault

-- a rule of a case that two segments break
abbrev pub is_about_two : CaseFault → Bool
is_about_two cases.Empty = false
is_about_two cases.NoMemory = false
is_about_two fault = true

-- The first of these segments breaks the rule that the fault names, and the second is the one against which it does.
abbrev pub BreakRule : List Content → CaseFault → Content → Content → Type 0
BreakRule segments (cases.OtherTrace place) one other =
    (slice_get segments place ≡ Some one) × (slice_get segments 0 ≡ Some other) × (one.trace_id ≢ other.trace_id)
BreakRule segments (cases.OtherProcessors place) one other =
    (slice_get segments place ≡ Some one) × (slice_get segments 0 ≡ Some other) × (one.processors ≢ other.processors)
BreakRule segments (cases.TwoContents processor number) one other =
    (key_of one ≡ (processor, number)) × (key_of other ≡ (processor, number)) × (one ≢ other)
BreakRule segments (cases.SequenceTwice sequence) one other =
    ((e : Event) × Contains one.events e × (e.sequence ≡ sequence)) × ((e : Event) × Contains other.events e × (e.sequence ≡ sequence))
    × (one ≢ other)
BreakRule segments (cases.Falling processor number) one other =
    (key_of one ≡ (processor, number)) × (other.processor ≡ processor) × (other.number < number)
    × (event earlier : Event) × Contains one.events event × Contains other.events earlier × (event.sequence ≤ earlier.sequence)
BreakRule segments fault one other = ⊥

-- The segments at these places break the rule: the first breaks it against the second.
pub record BreakRuleAt (segments : List Content) (fault : CaseFault) (first second : ℕ) : Type 0 where
  pub one : Content
  pub other : Content
  pub at_first : slice_get segments first ≡ Some one
  pub at_second : slice_get segments second ≡ Some other
  pub broken : BreakRule segments fault one other

-- the trace and the key of a segment
pub record IsHeaderOf (s : Content) (origin : Origin) : Type 0 where
  pub trace_id : origin.trace_id ≡ s.trace_id
  pub processors : origin.processors ≡ s.processors
  pub processor : origin.processor ≡ s.processor
  pub number : origin.number ≡ s.number

-- the origin of a segment of the inputs
abbrev pub IsOriginOf : InputForm → List (List ℕ) → Content → Origin → Type 0
IsOriginOf form inputs s origin = HasSegment form inputs origin.input s × IsHeaderOf s origin

-- the origins are those of two segments that break the rule
pub record AreOriginsOf (form : InputForm) (inputs : List (List ℕ)) (segments : List Content) (fault : CaseFault) (first second : Origin)
    : Type 0 where
  pub one : Content
  pub other : Content
  pub broken : BreakRule segments fault one other
  pub of_one : IsOriginOf form inputs one first
  pub of_other : IsOriginOf form inputs other second

-- Between: which two segments a fault of all segments is about. They are unknown only where there are two.
abbrev pub IsBetweenOf : InputForm → List (List ℕ) → List Content → CaseFault → Between → Type 0
IsBetweenOf form inputs segments fault Nothing = is_about_two fault ≡ false
IsBetweenOf form inputs segments fault (Two first second) = AreOriginsOf form inputs segments fault first second
IsBetweenOf form inputs segments fault Unknown = is_about_two fault ≡ true

-- Which two segments a fault of a run is about: none, unless it is a fault of all segments.
abbrev pub IsBetween : InputForm → List (List ℕ) → RunFault → Between → Type 0
IsBetween form inputs (Case fault) between =
    (segments : List Content) × DecodeAll form inputs segments × IsBetweenOf form inputs segments fault between
IsBetween form inputs fault between = between ≡ Nothing
