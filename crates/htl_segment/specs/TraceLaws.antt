-- Laws of the events of key sets.
use Rattle.std.specs.Prelude.{◌≡◌, ℕ, ◌+◌, Bool, List, ◌++◌, Option, Contains, ◌↔◌, max}
use Rattle.htl_event.specs.Events.{Event}
use Rattle.htl_event.specs.declared.slot.Slot.{Slot}
use Rattle.htl_event.specs.Handles.{LatestIs, later, IsGreatestSequence, IsMark, IsLastExit, HaveOwnSequences}
use Rattle.htl_event.specs.Tallies.{plus_count, count_where}
use Rattle.htl_segment.specs.Content.{Content}
use Rattle.htl_segment.specs.Keys.{run_below, united, AreApart}
use Rattle.htl_segment.specs.Traces.{Trace, IsTrace, AreInOrder, events_of, IsEventOf}

-- the events of a processor's run up to a segment are those below it, and then the segment's
abbrev pub RunsGrow : Type 0
RunsGrow = (segments : List Content) (s : Content) → AreInOrder segments → Contains segments s
    → events_of (run_below s.processor (s.number + 1)) segments ≡ events_of (run_below s.processor s.number) segments ++ s.events

-- the list of the events and their set have the same members
abbrev pub MembersAgree : Type 0
MembersAgree = (S : ℕ → ℕ → Bool) (segments : List Content) (e : Event) → Contains (events_of S segments) e ↔ IsEventOf S segments e

-- counts over two sets that have no key in common add up
abbrev pub ApartCountsAddUp : Type 0
ApartCountsAddUp = (S R : ℕ → ℕ → Bool) (segments : List Content) → AreApart S R → (passes : Event → Bool) (slot : Slot)
    → count_where passes (events_of (united S R) segments) slot ≡ plus_count (count_where passes (events_of S segments) slot)
    (count_where passes (events_of R segments) slot)

-- the latest event and the greatest sequence over two sets are the later and the greater of both, also where
-- the sets have keys in common
pub record LaterOfBothSets (S R : ℕ → ℕ → Bool) (segments : List Content) : Type 0 where
  pub latest : (process handle : ℕ) (a b : Option Event) → LatestIs (IsEventOf S segments) process handle a
      → LatestIs (IsEventOf R segments) process handle b
      → LatestIs (IsEventOf (united S R) segments) process handle (later a b)
  pub greatest : (a b : ℕ) → IsGreatestSequence (IsEventOf S segments) a → IsGreatestSequence (IsEventOf R segments) b
      → IsGreatestSequence (IsEventOf (united S R) segments) (max a b)
  pub mark : (process a b : ℕ) → IsMark (IsEventOf S segments) process a → IsMark (IsEventOf R segments) process b
      → IsMark (IsEventOf (united S R) segments) process (max a b)
  pub last_exit : (process a b : ℕ) → IsLastExit (IsEventOf S segments) process a → IsLastExit (IsEventOf R segments) process b
      → IsLastExit (IsEventOf (united S R) segments) process (max a b)

-- the events of each set of a trace's keys have sequences of their own
abbrev pub SequencesStayApart : Type 0
SequencesStayApart = (T : Trace) → IsTrace T → (S : ℕ → ℕ → Bool) → HaveOwnSequences (events_of S T.segments)
