-- Up to which moment a state has all events of its trace.
use Rattle.std.specs.Prelude.{◌≡◌, ℕ, ◌<◌, ◌≤◌, Contains}
use Rattle.htl_event.specs.Events.{Event}
use Rattle.htl_event.specs.Handles.{IsGreatestSequence}
use Rattle.htl_segment.specs.Content.{Content}
use Rattle.htl_segment.specs.Traces.{Trace}
use Rattle.htl_taken.specs.Numbers.{front_at}
use Rattle.htl_analyst.specs.States.{State, folded_at}
use Rattle.htl_analyst.specs.Keys.{HasTaken}
use Rattle.htl_analyst.specs.Right.{run_events}

-- Last folded sequence: the greatest in the processor's segments below the front, 0 where there is none.
abbrev pub IsLastFolded : Trace → State → ℕ → ℕ → Type 0
IsLastFolded T a p n = IsGreatestSequence (Contains (run_events T p (front_at a.taken p))) n

-- the least, over all processors, of the greatest sequences that the state keeps
pub record IsLeastKept (a : State) (n : ℕ) : Type 0 where
  pub bound : (p : ℕ) → p < a.processors → n ≤ (folded_at a.parts p).last_sequence
  pub processor : ℕ
  pub within : processor < a.processors
  pub reached : n ≡ (folded_at a.parts processor).last_sequence

-- the least, over all processors, of the last folded sequences
pub record IsLeastLastFolded (T : Trace) (a : State) (n : ℕ) : Type 0 where
  pub bound : (p m : ℕ) → p < a.processors → IsLastFolded T a p m → n ≤ m
  pub processor : ℕ
  pub within : processor < a.processors
  pub reached : IsLastFolded T a processor n

-- no segment of the trace outside the state's keys has an event at or below the moment
abbrev pub NothingMissing : Trace → State → ℕ → Type 0
NothingMissing T a n =
    (s : Content) → Contains T.segments s → (HasTaken a s.processor s.number → ⊥) → (e : Event) → Contains s.events e → n < e.sequence

-- the least of the kept sequences is no lower in the second state than in the first
abbrev pub NeverFalls : State → State → Type 0
NeverFalls a b = (n m : ℕ) → IsLeastKept a n → IsLeastKept b m → n ≤ m
