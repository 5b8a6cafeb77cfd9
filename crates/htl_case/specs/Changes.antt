-- For the clauses of private functions: what one step makes of the states of some analysts.
use Rattle.std.specs.Prelude.{◌≡◌, ℕ, List, Some, slice_get, slice_set}
use Rattle.htl_segment.specs.Traces.{Trace}
use Rattle.htl_analyst.specs.States.{State}
use Rattle.htl_analyst.specs.Steps.{IsMerge}
use Rattle.htl_case.specs.declared.step.Step.{Step}
use Rattle.htl_case.specs.declared.step.Step.TheVariants.{Take, Merge, Compact}
use Rattle.htl_case.specs.Histories.{IsTake, IsCompaction, IsTriedCompaction}

-- the state of one analyst changed, in this way
pub record Changes (analyst : ℕ) (Way : State → State → Type 0) (before after : List State) : Type 0 where
  pub old : State
  pub here : slice_get before analyst ≡ Some old
  pub new : State
  pub way : Way old new
  pub others : after ≡ slice_set before analyst new

-- the source's state was merged; the source may be the target
abbrev pub IsMergeFrom : List State → ℕ → State → State → Type 0
IsMergeFrom states source old new = (other : State) × (slice_get states source ≡ Some other) × IsMerge old other new

abbrev pub IsStep : Trace → Step → List State → List State → Type 0
IsStep T (Take analyst segment) before after = Changes analyst (IsTake T segment) before after
IsStep T (Merge target source) before after = Changes target (IsMergeFrom before source) before after
IsStep T (Compact analyst) before after = Changes analyst IsCompaction before after

-- the step changed the state of one analyst; where it is a compaction, this may have been refused
abbrev pub IsTriedStep : Trace → Step → List State → List State → Type 0
IsTriedStep T (Compact analyst) before after = Changes analyst IsTriedCompaction before after
IsTriedStep T step before after = IsStep T step before after
