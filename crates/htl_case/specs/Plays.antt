-- Why a list of steps isn't played (this project's own rules): it names an analyst or a segment that isn't there.
use Rattle.std.specs.Prelude.{◌≡◌, ℕ, ◌<◌, ◌≤◌, ◌⊎◌, List, Some, length, slice_get}
use Rattle.htl_case.specs.declared.step.Step.{Step}
use Rattle.htl_case.specs.declared.step.Step.TheVariants.{Take, Merge, Compact}
use Rattle.htl_case.specs.declared.fault.PlayFault.{PlayFault}
use Rattle.htl_case.specs.declared.fault.PlayFault.TheVariants.{NoAnalyst, NoSegment, NoMemory}
use Rattle.htl_event.specs.Members.{IsLeastSuch}

-- an analyst that isn't one of the first n
abbrev pub NamesNoAnalyst : ℕ → Step → Type 0
NamesNoAnalyst n (Take analyst segment) = n ≤ analyst
NamesNoAnalyst n (Merge target source) = (n ≤ target) ⊎ (n ≤ source)
NamesNoAnalyst n (Compact analyst) = n ≤ analyst

-- a place that isn't one of the first m
abbrev pub NamesNoSegment : ℕ → Step → Type 0
NamesNoSegment m (Take analyst segment) = m ≤ segment
NamesNoSegment m (Merge target source) = ⊥
NamesNoSegment m (Compact analyst) = ⊥

abbrev pub IsFaulty : ℕ → ℕ → Step → Type 0
IsFaulty n m step = NamesNoAnalyst n step ⊎ NamesNoSegment m step

-- the step at a place has the property
pub record HasAt (P : Step → Type 0) (steps : List Step) (place : ℕ) : Type 0 where
  pub step : Step
  pub here : slice_get steps place ≡ Some step
  pub holds : P step

-- every step names analysts and segments that are there
abbrev pub NoneIsFaulty : ℕ → ℕ → List Step → Type 0
NoneIsFaulty n m steps = (place : ℕ) → HasAt (IsFaulty n m) steps place → ⊥

-- The fault that is reported for n analysts and m segments: that of the first faulty step, a missing analyst before
-- a missing segment. Out of memory is reported only where no step is faulty.
abbrev pub IsPlayRefusal : ℕ → ℕ → List Step → PlayFault → Type 0
IsPlayRefusal n m steps (NoAnalyst place) =
    HasAt (NamesNoAnalyst n) steps place × IsLeastSuch ◌<◌ (HasAt (IsFaulty n m) steps) place
IsPlayRefusal n m steps (NoSegment place) =
    (HasAt (NamesNoAnalyst n) steps place → ⊥) × IsLeastSuch ◌<◌ (HasAt (IsFaulty n m) steps) place
IsPlayRefusal n m steps NoMemory = NoneIsFaulty n m steps

-- The fault that is reported where an analyst is asked after the steps: that of the steps, or else a missing analyst that is
-- asked, at the place after the last step.
abbrev pub IsAnswerRefusal : ℕ → ℕ → List Step → ℕ → PlayFault → Type 0
IsAnswerRefusal n m steps analyst (NoAnalyst place) =
    IsPlayRefusal n m steps (NoAnalyst place) ⊎ (NoneIsFaulty n m steps × (n ≤ analyst) × (place ≡ length steps))
IsAnswerRefusal n m steps analyst (NoSegment place) = IsPlayRefusal n m steps (NoSegment place)
IsAnswerRefusal n m steps analyst NoMemory = NoneIsFaulty n m steps × (analyst < n)
