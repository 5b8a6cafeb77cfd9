-- A trace (this project's own): the segments that the processors of one machine wrote apart, and the events
-- of a set of their keys.
use Rattle.std.specs.Prelude.{◌≡◌, ℕ, ◌<◌, Bool, true, ◌⊎◌, List, [], ◌∷◌, Contains, filter}
use Rattle.std.specs.List.{AllByRecursion, flat_map}
use Rattle.htl_event.specs.Events.{Event}
use Rattle.htl_event.specs.Handles.{HaveOwnSequences}
use Rattle.htl_segment.specs.Content.{Content, Fits}

-- the segments in rising order of their keys
pub record Trace : Type 0 where
  pub id : ℕ
  pub processors : ℕ
  pub segments : List Content

abbrev pub trace : ℕ → ℕ → List Content → Trace
trace id processors segments = record { id = id; processors = processors; segments = segments }

-- the segment's key comes before the other's: by processor, and then by number
abbrev pub IsBefore : Content → Content → Type 0
IsBefore s t = (s.processor < t.processor) ⊎ ((s.processor ≡ t.processor) × (s.number < t.number))

-- each segment's key comes before those of all that follow, so no key comes twice
abbrev pub AreInOrder : List Content → Type 0
AreInOrder [] = Unit {0}
AreInOrder (s ∷ ss) = AllByRecursion (IsBefore s) ss × AreInOrder ss

abbrev pub all_events : List Content → List Event
all_events segments = flat_map (λ s. s.events) segments

-- Each key has one segment, which has the trace's id and processor count, and all event sequences differ.
-- (That they rise along a processor is no part of it.)
pub record IsTrace (T : Trace) : Type 0 where
  pub in_order : AreInOrder T.segments
  pub fit : AllByRecursion Fits T.segments
  pub same : AllByRecursion (λ s. (s.trace_id ≡ T.id) × (s.processors ≡ T.processors)) T.segments
  pub sequences : HaveOwnSequences (all_events T.segments)

-- the trace has a segment of this key
abbrev pub HasKey : Trace → ℕ → ℕ → Type 0
HasKey T p n = (s : Content) × Contains T.segments s × (s.processor ≡ p) × (s.number ≡ n)

abbrev pub key_is_in : (ℕ → ℕ → Bool) → Content → Bool
key_is_in S s = S s.processor s.number

-- Events of a key set: those of the segments whose key is in the set, as a list and as a set.
abbrev pub events_of : (ℕ → ℕ → Bool) → List Content → List Event
events_of S segments = all_events (filter (key_is_in S) segments)

abbrev pub IsEventOf : (ℕ → ℕ → Bool) → List Content → Event → Type 0
IsEventOf S segments e = (s : Content) × Contains segments s × (key_is_in S s ≡ true) × Contains s.events e
