-- What a take and a merge leave, and why they are refused (this project's own).
use Rattle.std.specs.Prelude.{◌≡◌, ◌+◌, ◌⊎◌, ◌↔◌, ℕ, Contains, Result, Ok, Err}
use Rattle.htl_segment.specs.Content.{Content}
use Rattle.htl_segment.specs.Traces.{Trace}
use Rattle.htl_analyst.specs.States.{State}
use Rattle.htl_analyst.specs.Keys.{HasTaken, number_taken}
use Rattle.htl_analyst.specs.Moments.{NeverFalls}
use Rattle.htl_analyst.specs.Refusals.{MergeAccepted, MergeRefused, TakeAccepted, TakeRefused}
use Rattle.htl_analyst.specs.Right.{IsRight}
use Rattle.htl_analyst.specs.Steps.{IsMerge, taken_as}
use Rattle.htl_analyst.specs.declared.fault.MergeFault.{MergeFault}
use Rattle.htl_analyst.specs.declared.fault.MergeFault.TheVariants as merges
use Rattle.htl_analyst.specs.declared.fault.TakeFault.{TakeFault}
use Rattle.htl_analyst.specs.declared.fault.TakeFault.TheVariants as takes
use Rattle.htl_analyst.specs.declared.fault.Took.{Took}
use Rattle.htl_analyst.specs.declared.fault.Took.TheVariants.{New}

-- how a call ends, without what it hands back with a fault
abbrev pub without_return : {S E X : Type 0} → Result S (E × X) → Result S E
without_return (Ok done) = Ok done
without_return (Err refused) = Err refused.0

-- The segment was taken.
pub record IsTaken (before : State) (segment : Content) (after : State) (took : Took) : Type 0 where
  pub keys : (p n : ℕ) → HasTaken after p n ↔ (HasTaken before p n ⊎ ((p ≡ segment.processor) × (n ≡ segment.number)))
  pub new : (took ≡ New) ↔ (HasTaken before segment.processor segment.number → ⊥)
  pub state : after ≡ taken_as took before segment
  pub one_more : took ≡ New → number_taken after ≡ number_taken before + 1
  pub accepted : TakeAccepted before segment
  -- It is a segment of a trace that the state is right about.
  pub right : (T : Trace) → IsRight before T → Contains T.segments segment → IsRight after T
  pub never_falls : (T : Trace) → IsRight before T → Contains T.segments segment → NeverFalls before after

-- The segment is refused, and nothing has changed. Of a trace that the state is right about each is taken where memory suffices.
pub record IsTakeRefused (before : State) (segment : Content) (after : State) (fault : TakeFault) : Type 0 where
  pub cause : TakeRefused before segment fault
  pub same : after ≡ before
  pub lawful : (T : Trace) → IsRight before T → Contains T.segments segment → fault ≡ takes.NoMemory

abbrev pub Takes : State → Content → State → Result Took TakeFault → Type 0
Takes before segment after (Ok took) = IsTaken before segment after took
Takes before segment after (Err fault) = IsTakeRefused before segment after fault

-- All that the other has taken was taken in.
pub record IsMerged (before other after : State) : Type 0 where
  pub merged : IsMerge before other after
  pub keys : (p n : ℕ) → HasTaken after p n ↔ (HasTaken before p n ⊎ HasTaken other p n)
  pub accepted : MergeAccepted before other
  -- The states are right about one trace.
  pub right : (T : Trace) → IsRight before T → IsRight other T → IsRight after T
  pub never_falls : (T : Trace) → IsRight before T → IsRight other T → NeverFalls before after

-- The merge is refused, and nothing has changed. States that are right about one trace are merged where memory suffices.
pub record IsMergeRefused (before other after : State) (fault : MergeFault) : Type 0 where
  pub cause : MergeRefused before other fault
  pub same : after ≡ before
  pub lawful : (T : Trace) → IsRight before T → IsRight other T → fault ≡ merges.NoMemory

abbrev pub Merges : {S : Type 0} → State → State → State → Result S MergeFault → Type 0
Merges before other after (Ok done) = IsMerged before other after
Merges before other after (Err fault) = IsMergeRefused before other after fault
