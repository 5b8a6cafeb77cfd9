-- Picked cases (this project's own word): of a case what a question needs.
use Rattle.std.specs.Prelude.{◌≡◌, ℕ, ◌<◌, ◌⊎◌, List, Option, Some, None, map, slice_get}
use Rattle.std.specs.List.Sorted.{IsPermutation}
use Rattle.htl_event.specs.Events.{Event}
use Rattle.htl_event.specs.Interests.{wanted}
use Rattle.htl_event.specs.Moments.{counted_events}
use Rattle.htl_event.specs.declared.interest.Interest.{Interest}
use Rattle.htl_segment.specs.Content.{Content}
use Rattle.htl_segment.specs.Outlines.{outline_of}
use Rattle.htl_segment.specs.Traces.{Trace, all_events}
use Rattle.htl_segment.specs.declared.outline.Outline.{Outline}
use Rattle.htl_case.specs.Cases.{IsCaseOf}
use Rattle.htl_case.specs.Faults.{key_of}

pub record Picked : Type 0 where
  pub processors : ℕ
  pub outlines : List Outline
  pub events : List Event

abbrev pub picked : ℕ → List Outline → List Event → Picked
picked processors outlines events = record { processors = processors; outlines = outlines; events = events }

-- What was picked of the trace, as of a moment where one is given: the outlines in the order of their keys, and of the events until the
-- moment those that are asked about, in any order.
pub record IsPickedUntil (interest : Interest) (T : Trace) (until : Option ℕ) (case : Picked) : Type 0 where
  pub processors : case.processors ≡ T.processors
  pub outlines : case.outlines ≡ map outline_of T.segments
  pub events : IsPermutation (wanted interest (counted_events until (all_events T.segments))) case.events

-- what was picked of all events of the trace
abbrev pub IsPickedOf : Interest → Trace → Picked → Type 0
IsPickedOf interest T case = IsPickedUntil interest T None case

-- segments at two places of the list have one key
pub record KeyComesTwice (segments : List Content) : Type 0 where
  pub place : ℕ
  pub later : ℕ
  pub before : place < later
  pub one : Content
  pub other : Content
  pub at_place : slice_get segments place ≡ Some one
  pub at_later : slice_get segments later ≡ Some other
  pub same : key_of one ≡ key_of other

-- Only whole segments tell what the list comes to: a key comes twice, with one content or with two, or the segments are no case.
abbrev pub NeedsWhole : List Content → Type 0
NeedsWhole segments = KeyComesTwice segments ⊎ ((T : Trace) → IsCaseOf segments T → ⊥)
