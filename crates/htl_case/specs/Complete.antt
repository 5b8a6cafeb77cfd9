-- Up to which moment no segment of a trace is missing (this project's own).
use Rattle.std.specs.Prelude.{ℕ, ◌<◌, ◌≤◌, Contains}
use Rattle.htl_event.specs.Handles.{IsGreatestSequence}
use Rattle.htl_segment.specs.Keys.{run_below}
use Rattle.htl_segment.specs.Traces.{Trace, HasKey, events_of}

-- the number of the processor's first segment that is missing
pub record IsFirstMissing (T : Trace) (p n : ℕ) : Type 0 where
  pub below : (m : ℕ) → m < n → HasKey T p m
  pub missing : HasKey T p n → ⊥

-- the greatest sequence of the processor's segments before its first missing one, 0 where they have no event
abbrev pub IsUnbrokenTo : Trace → ℕ → ℕ → Type 0
IsUnbrokenTo T p n =
    (first : ℕ) × IsFirstMissing T p first × IsGreatestSequence (Contains (events_of (run_below p first) T.segments)) n

-- Complete to: the least sequence, over all processors, up to which a processor's segments are unbroken.
pub record IsCompleteTo (T : Trace) (n : ℕ) : Type 0 where
  pub bound : (p m : ℕ) → p < T.processors → IsUnbrokenTo T p m → n ≤ m
  pub processor : ℕ
  pub within : processor < T.processors
  pub reached : IsUnbrokenTo T processor n
