-- When a state is right about a trace.
use Rattle.std.specs.Prelude.{◌≡◌, ℕ, ◌*◌, ◌<◌, ◌≤◌, List, [], length, map, Contains}
use Rattle.std.specs.List.{AllByRecursion}
use Rattle.htl_event.specs.Events.{Event}
use Rattle.htl_event.specs.Handles.{IsGreatestSequence}
use Rattle.htl_segment.specs.Content.{Content, Fits}
use Rattle.htl_segment.specs.Keys.{run_below}
use Rattle.htl_segment.specs.Traces.{Trace, AreInOrder, HasKey, events_of}
use Rattle.htl_tree.specs.Trees.{total_count}
use Rattle.htl_taken.specs.Numbers.{Numbers, numbers_at, front_at, IsProper}
use Rattle.htl_answers.specs.Parts.{IsFoldOf}
use Rattle.htl_analyst.specs.States.{Folded, Part, part, State, part_at}
use Rattle.htl_analyst.specs.Keys.{HasTaken}
use Rattle.htl_analyst.specs.TakenEvents.{contents_of}

-- ---- what every state is, whatever segments it took

-- the segment is of this processor, and has this trace id and processor count
pub record IsOwned (id count p : ℕ) (s : Content) : Type 0 where
  pub fits : Fits s
  pub trace_id : s.trace_id ≡ id
  pub processors : s.processors ≡ count
  pub processor : s.processor ≡ p

-- no count of what was folded is above the bound: neither those of all stacks together, nor that of the events
pub record IsWithin (most : ℕ) (f : Folded) : Type 0 where
  pub counts : total_count f.tree ≤ most
  pub events : f.events ≤ most

-- A segment is held for each loose number, in order, and no other. A segment has 4,096 events at most.
pub record IsPart (id count p : ℕ) (q : Numbers) (k : Part) : Type 0 where
  pub proper : IsProper q
  pub numbers : map (λ s. s.number) k.held ≡ q.loose
  pub owned : AllByRecursion (IsOwned id count p) k.held
  pub bounded : IsWithin (4096 * q.front) k.folded

pub record IsState (a : State) : Type 0 where
  pub some : 0 < a.processors
  pub few : a.processors ≤ 256
  pub places : length a.taken ≡ a.processors
  pub parts : length a.parts ≡ a.processors
  pub each : (p : ℕ) → p < a.processors → IsPart a.trace_id a.processors p (numbers_at a.taken p) (part_at a.parts p)

-- ---- what is right about a trace

-- A collection of segments: one for each key, all with the trace's id and processor count. If also no two events have one
-- sequence, it is a trace; nothing that takes segments can test that.
pub record IsCollection (T : Trace) : Type 0 where
  pub in_order : AreInOrder T.segments
  pub fit : AllByRecursion Fits T.segments
  pub same : AllByRecursion (λ s. (s.trace_id ≡ T.id) × (s.processors ≡ T.processors)) T.segments

-- what was folded is what an answer takes for a fold of the events, with their greatest sequence and their number
pub record IsFolded (f : Folded) (events : List Event) : Type 0 where
  pub fold : IsFoldOf (contents_of (part [] f)) events
  pub last : IsGreatestSequence (Contains events) f.last_sequence
  pub number : f.events ≡ length events

-- the events of a processor's segments below a front
abbrev pub run_events : Trace → ℕ → ℕ → List Event
run_events T p front = events_of (run_below p front) T.segments

pub record IsRightAt (T : Trace) (p : ℕ) (q : Numbers) (k : Part) : Type 0 where
  pub complete : (n : ℕ) → n < q.front → HasKey T p n
  pub held : AllByRecursion (Contains T.segments) k.held
  pub folded : IsFolded k.folded (run_events T p q.front)

-- Right about the segments of a trace: the state has the trace's id and processor count, all numbers below the
-- fronts are numbers of its segments, what is held are segments of it, and what was folded are the events below
-- the front. It says nothing of whether sequences differ.
pub record IsRight (a : State) (T : Trace) : Type 0 where
  pub collection : IsCollection T
  pub id : T.id ≡ a.trace_id
  pub processors : T.processors ≡ a.processors
  pub state : IsState a
  pub each : (p : ℕ) → p < a.processors → IsRightAt T p (numbers_at a.taken p) (part_at a.parts p)

-- Standing state: right, and each front is the least number that wasn't taken.
pub record IsStanding (a : State) (T : Trace) : Type 0 where
  pub right : IsRight a T
  pub least : (p : ℕ) → HasTaken a p (front_at a.taken p) → ⊥

-- every key of the first state is a key of the second
abbrev pub KeysAreIn : State → State → Type 0
KeysAreIn a b = (p n : ℕ) → HasTaken a p n → HasTaken b p n

-- Order of states: both are right about the trace, and the second has all keys of the first.
pub record IsBelow (T : Trace) (a b : State) : Type 0 where
  pub lower : IsRight a T
  pub upper : IsRight b T
  pub keys : KeysAreIn a b
