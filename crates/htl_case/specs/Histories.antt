-- What an analyst went through on a trace, and the states that this may leave: those that the contracts of its calls promise.
use Rattle.std.specs.Prelude.{◌≡◌, ◌↔◌, ℕ, ◌<◌, ◌≤◌, Bool, false, ◌||◌, ◌==◌, if◌then◌else◌, List, fold, Some, slice_get}
use Rattle.htl_segment.specs.Content.{Content}
use Rattle.htl_segment.specs.Traces.{Trace, IsTrace}
use Rattle.htl_analyst.specs.declared.fault.Took.{Took}
use Rattle.htl_analyst.specs.declared.fault.Took.TheVariants.{New}
use Rattle.htl_analyst.specs.States.{State}
use Rattle.htl_analyst.specs.Keys.{keys, HasTaken}
use Rattle.htl_analyst.specs.Right.{IsRight, IsStanding}
use Rattle.htl_analyst.specs.Steps.{new_state, taken_as, IsMerge}
use Rattle.htl_case.specs.declared.step.Step.{Step}
use Rattle.htl_case.specs.declared.step.Step.TheVariants.{Take, Merge, Compact}
use Rattle.htl_case.specs.Reached.{is_key_at, reached}

-- An analyst begins with nothing. It took the trace's segment at a place, an analyst of another history or of its own was
-- merged into it, and it was compacted. A compaction that was refused is a step like any other.
pub data History : Type 0 where
  begun : History
  took : History → ℕ → History
  merged : History → History → History
  compacted : History → History
  compaction_refused : History → History

-- the keys of the segments that reached it
abbrev pub reached_by : Trace → History → ℕ → ℕ → Bool
reached_by T begun p n = false
reached_by T (took before place) p n = reached_by T before p n || is_key_at T place p n
reached_by T (merged before other) p n = reached_by T before p n || reached_by T other p n
reached_by T (compacted before) p n = reached_by T before p n
reached_by T (compaction_refused before) p n = reached_by T before p n

-- ---- the calls

-- `new` answered Ok for the trace (clause `state`; `processors` says when it does).
pub record IsNew (T : Trace) (new : State) : Type 0 where
  pub some : 0 < T.processors
  pub few : T.processors ≤ 256
  pub state : new ≡ new_state T.id T.processors

-- `take` of the trace's segment at a place answered Ok (clauses `new` and `state`).
pub record IsTake (T : Trace) (place : ℕ) (old new : State) : Type 0 where
  pub segment : Content
  pub here : slice_get T.segments place ≡ Some segment
  pub took : Took
  pub is_new : (took ≡ New) ↔ (HasTaken old segment.processor segment.number → ⊥)
  pub state : new ≡ taken_as took old segment

-- `compact` answered Ok (`keys` and `standing` of `Compacts`).
pub record IsCompaction (old new : State) : Type 0 where
  pub keys : (p n : ℕ) → HasTaken new p n ↔ HasTaken old p n
  pub standing : (T : Trace) → IsRight old T → IsStanding new T

-- `compact` answered, Ok or not (`keys` and `right` of `Compacts`).
pub record IsTriedCompaction (old new : State) : Type 0 where
  pub keys : (p n : ℕ) → HasTaken new p n ↔ HasTaken old p n
  pub right : (T : Trace) → IsRight old T → IsRight new T

-- The history may leave the analyst in this state. (`IsMerge`: `merge` or `absorb` answered Ok, clause `merged`.)
abbrev pub Leaves : Trace → History → State → Type 0
Leaves T begun new = IsNew T new
Leaves T (took before place) new = (old : State) × Leaves T before old × IsTake T place old new
Leaves T (merged before other) new =
    (old : State) × (source : State) × Leaves T before old × Leaves T other source × IsMerge old source new
Leaves T (compacted before) new = (old : State) × Leaves T before old × IsCompaction old new
Leaves T (compaction_refused before) new = (old : State) × Leaves T before old × IsTriedCompaction old new

-- The analyst is in this state after some history on the trace, and the segments that reached it are those whose keys are in
-- the set.
pub record IsReachedBy (T : Trace) (S : ℕ → ℕ → Bool) (a : State) : Type 0 where
  pub trace : IsTrace T
  pub history : History
  pub leaves : Leaves T history a
  pub set : (p n : ℕ) → reached_by T history p n ≡ S p n

-- Its last step was a compaction, which was not refused.
abbrev pub IsCompacted : History → Type 0
IsCompacted (compacted before) = Unit {0}
IsCompacted other = ⊥

-- ---- lists of steps

-- the history of each analyst after the step
abbrev pub history_after : (ℕ → History) → Step → ℕ → History
history_after before (Take analyst segment) i = if i == analyst then took (before i) segment else before i
history_after before (Merge target source) i = if i == target then merged (before i) (before source) else before i
history_after before (Compact analyst) i = if i == analyst then compacted (before i) else before i

abbrev pub history : List Step → ℕ → History
history steps = fold history_after (λ i. begun) steps

-- every analyst is right about the trace
abbrev pub AreRight : Trace → List State → Type 0
AreRight T states = (i : ℕ) (a : State) → slice_get states i ≡ Some a → IsRight a T

-- the keys of each analyst are exactly those that reached it
abbrev pub HaveReached : Trace → List Step → List State → Type 0
HaveReached T steps states = (i : ℕ) (a : State) → slice_get states i ≡ Some a → (p n : ℕ) → keys a p n ≡ reached T steps i p n

-- each analyst has the history that the steps give it
abbrev pub HaveHistories : Trace → List Step → List State → Type 0
HaveHistories T steps states = (i : ℕ) (a : State) → slice_get states i ≡ Some a → Leaves T (history steps i) a
