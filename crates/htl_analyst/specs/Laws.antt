-- Laws of states that are right about the segments of one trace. Where two events may share a sequence, a state
-- that is right need not be determined, so some laws ask that the sequences differ (`IsTrace`).
use Rattle.std.specs.Prelude.{◌≡◌, ◌↔◌, ◌⊎◌, ◌≤◌, ℕ, List, Contains}
use Rattle.htl_event.specs.Events.{Event}
use Rattle.htl_segment.specs.Rising.{SequencesRise}
use Rattle.htl_segment.specs.Traces.{Trace, IsTrace, events_of}
use Rattle.htl_analyst.specs.States.{State}
use Rattle.htl_analyst.specs.Keys.{keys, HasTaken}
use Rattle.htl_analyst.specs.Right.{IsCollection, IsState, IsRight, IsStanding, KeysAreIn, IsBelow}
use Rattle.htl_analyst.specs.Same.{IsSame}
use Rattle.htl_analyst.specs.Steps.{IsMerge}
use Rattle.htl_analyst.specs.Restored.{Fold, of_folds, CanRestore, AreFoldsOf, AreNew, held_segments, with_segments}
use Rattle.htl_analyst.specs.Moments.{IsLeastKept}
use Rattle.htl_analyst.specs.TakenEvents.{taken_events}

-- fronts and loose numbers determine a state
abbrev pub IsDetermined : Type 0
IsDetermined = (T : Trace) (a b : State) → IsTrace T → IsRight a T → IsRight b T → a.taken ≡ b.taken → IsSame a b

abbrev pub IsCommutative : Type 0
IsCommutative = (T : Trace) (a b ab ba : State) → IsTrace T → IsRight a T → IsRight b T
    → IsMerge a b ab → IsMerge b a ba → IsSame ab ba

abbrev pub IsAssociative : Type 0
IsAssociative = (T : Trace) (a b c ab bc l r : State) → IsTrace T → IsRight a T → IsRight b T → IsRight c T
    → IsMerge a b ab → IsMerge b c bc → IsMerge ab c l → IsMerge a bc r → IsSame l r

abbrev pub IsIdempotent : Type 0
IsIdempotent = (T : Trace) (a c : State) → IsTrace T → IsRight a T → IsMerge a a c → IsSame c a

-- the state `m` is above `a` and `b`, and below every state that is above both
pub record IsLeastAbove (T : Trace) (a b m : State) : Type 0 where
  pub left : IsBelow T a m
  pub right : IsBelow T b m
  pub least : (c : State) → IsBelow T a c → IsBelow T b c → IsBelow T m c

abbrev pub IsLeastMerge : Type 0
IsLeastMerge = (T : Trace) (a b m : State) → IsRight a T → IsRight b T → IsMerge a b m → IsLeastAbove T a b m

-- standing states with the same keys are the same
abbrev pub AreEqualOnceCompacted : Type 0
AreEqualOnceCompacted = (T : Trace) (a b : State) → IsTrace T → IsStanding a T → IsStanding b T
    → KeysAreIn a b → KeysAreIn b a → IsSame a b

-- states that took the same segments have the same events, and every answer is about the state's events
abbrev pub Agree : Type 0
Agree = (T : Trace) (a b : State) → IsRight a T → IsRight b T → KeysAreIn a b → KeysAreIn b a
    → events_of (keys a) T.segments ≡ events_of (keys b) T.segments

-- a merge has taken what either state has taken
abbrev pub UnitesKeys : Type 0
UnitesKeys = (a b c : State) → IsMerge a b c → (p n : ℕ) → HasTaken c p n ↔ (HasTaken a p n ⊎ HasTaken b p n)

-- No later take or merge brings an event at or below the moment up to which a state is complete: each such event that any
-- other state has taken, this state has taken.
abbrev pub NothingComesLater : Type 0
NothingComesLater = (T : Trace) (a b : State) (n : ℕ) → IsRight a T → SequencesRise T.segments → IsLeastKept a n
    → (e : Event) → Contains (taken_events T b) e → e.sequence ≤ n → Contains (taken_events T a) e

-- every trace is a collection
abbrev pub TracesAreCollections : Type 0
TracesAreCollections = (T : Trace) → IsTrace T → IsCollection T

-- The state of these folds, of which there may be one, is the given one once its held segments are taken, as they are listed.
-- Each of them is taken as a new one.
pub record IsMadeAgain (a : State) (folds : List Fold) : Type 0 where
  pub restores : CanRestore folds
  pub new : AreNew (of_folds a.trace_id folds) (held_segments a)
  pub same : with_segments (of_folds a.trace_id folds) (held_segments a) ≡ a

-- a state is made again of its folds and its held segments
abbrev pub AreMadeAgain : Type 0
AreMadeAgain = (a : State) (folds : List Fold) → IsState a → AreFoldsOf a folds → IsMadeAgain a folds
