-- Why a list of segments is no case (this project's own rules). The list is as it was given: in any order,
-- with repeats.
use Rattle.std.specs.Prelude.{◌≡◌, ◌≢◌, ℕ, ◌<◌, ◌≤◌, List, [], Some, Contains, slice_get, Result, Ok, Err}
use Rattle.htl_event.specs.Events.{Event}
use Rattle.htl_event.specs.Members.{IsLeastSuch}
use Rattle.htl_segment.specs.Content.{Content}
use Rattle.htl_segment.specs.Traces.{Trace}
use Rattle.htl_segment.specs.Rising.{IsKeyBefore}
use Rattle.htl_case.specs.declared.fault.CaseFault.{CaseFault}
use Rattle.htl_case.specs.declared.fault.CaseFault.TheVariants.{Empty, OtherTrace, OtherProcessors, TwoContents}
use Rattle.htl_case.specs.declared.fault.CaseFault.TheVariants.{SequenceTwice, NoMemory, Falling}
use Rattle.htl_case.specs.Cases.{IsCaseOf}

-- the segment at a place has another value than that at place 0
pub record Differs (value : Content → ℕ) (segments : List Content) (place : ℕ) : Type 0 where
  pub first : Content
  pub at_first : slice_get segments 0 ≡ Some first
  pub other : Content
  pub at_place : slice_get segments place ≡ Some other
  pub differ : value other ≢ value first

abbrev pub HasOtherTrace : List Content → ℕ → Type 0
HasOtherTrace segments place = Differs (λ s. s.trace_id) segments place

abbrev pub HasOtherProcessors : List Content → ℕ → Type 0
HasOtherProcessors segments place = Differs (λ s. s.processors) segments place

-- a key: a processor and a segment number
abbrev pub key_of : Content → ℕ × ℕ
key_of s = (s.processor, s.number)

-- two different segments have the key
pub record HasTwoContents (segments : List Content) (key : ℕ × ℕ) : Type 0 where
  pub one : Content
  pub other : Content
  pub has_one : Contains segments one
  pub has_other : Contains segments other
  pub one_key : key_of one ≡ key
  pub other_key : key_of other ≡ key
  pub differ : one ≢ other

-- two different segments have an event of the sequence; a segment that is repeated is one segment
pub record ComesTwice (segments : List Content) (sequence : ℕ) : Type 0 where
  pub one : Content
  pub other : Content
  pub has_one : Contains segments one
  pub has_other : Contains segments other
  pub differ : one ≢ other
  pub in_one : (e : Event) × Contains one.events e × (e.sequence ≡ sequence)
  pub in_other : (e : Event) × Contains other.events e × (e.sequence ≡ sequence)

-- the key's segment has an event that isn't above every sequence in its processor's segments of lower numbers
pub record Falls (segments : List Content) (key : ℕ × ℕ) : Type 0 where
  pub segment : Content
  pub lower : Content
  pub has_segment : Contains segments segment
  pub has_lower : Contains segments lower
  pub segment_key : key_of segment ≡ key
  pub same_processor : lower.processor ≡ segment.processor
  pub lower_number : lower.number < segment.number
  pub event : Event
  pub earlier : Event
  pub has_event : Contains segment.events event
  pub has_earlier : Contains lower.events earlier
  pub falling : event.sequence ≤ earlier.sequence

-- all segments have one trace id
abbrev pub HaveOneTrace : List Content → Type 0
HaveOneTrace segments = (s t : Content) → Contains segments s → Contains segments t → s.trace_id ≡ t.trace_id

-- all segments have one processor count
abbrev pub HaveOneCount : List Content → Type 0
HaveOneCount segments = (s t : Content) → Contains segments s → Contains segments t → s.processors ≡ t.processors

-- segments of one key are equal
abbrev pub HaveOneContent : List Content → Type 0
HaveOneContent segments = (s t : Content) → Contains segments s → Contains segments t → key_of s ≡ key_of t → s ≡ t

-- the rules that are tried without memory hold: there are segments, of one trace, with one content a key
pub record AreOfOneTrace (segments : List Content) : Type 0 where
  pub some : segments ≢ []
  pub trace : HaveOneTrace segments
  pub count : HaveOneCount segments
  pub content : HaveOneContent segments

-- The fault that is reported: the first rule that is broken, with its least place, key or sequence. Out of
-- memory is reported only where the rules that are tried without memory hold.
abbrev pub IsRefusal : List Content → CaseFault → Type 0
IsRefusal segments Empty = segments ≡ []
IsRefusal segments (OtherTrace place) = IsLeastSuch ◌<◌ (HasOtherTrace segments) place
IsRefusal segments (OtherProcessors place) = HaveOneTrace segments × IsLeastSuch ◌<◌ (HasOtherProcessors segments) place
IsRefusal segments (TwoContents processor number) =
    HaveOneTrace segments × HaveOneCount segments × IsLeastSuch IsKeyBefore (HasTwoContents segments) (processor, number)
IsRefusal segments (SequenceTwice sequence) = AreOfOneTrace segments × IsLeastSuch ◌<◌ (ComesTwice segments) sequence
IsRefusal segments NoMemory = AreOfOneTrace segments
IsRefusal segments (Falling processor number) =
    AreOfOneTrace segments × ((x : ℕ) → ComesTwice segments x → ⊥) × IsLeastSuch IsKeyBefore (Falls segments) (processor, number)

-- what a list of segments comes to: its case, or the first rule that it breaks (out of memory is none)
abbrev pub IsOutcome : List Content → Result Trace CaseFault → Type 0
IsOutcome segments (Ok T) = IsCaseOf segments T
IsOutcome segments (Err fault) = (fault ≢ NoMemory) × IsRefusal segments fault
