-- Whether segments of a trace are missing (this project's own), and which is the least.
use Rattle.std.specs.Prelude.{◌≡◌, ◌<◌, ◌≤◌, ◌⊎◌, ◌++◌, ◌∷◌, ℕ, List, All, Contains, Some}
use Rattle.htl_segment.specs.Traces.{Trace, HasKey}
use Rattle.htl_case.specs.Complete.{IsFirstMissing}
use Rattle.htl_taken.specs.Gaps.{IsGap, processor_of}
use Rattle.htl_taken.specs.declared.gap.Gap.{Gap}
use Rattle.htl_reading.specs.declared.outcome.SegmentName.{SegmentName}
use Rattle.htl_inputs.specs.declared.cuts.CutEnd.{CutEnd}
use Rattle.htl_inputs.specs.declared.fault.RunFault.{RunFault}
use Rattle.htl_inputs.specs.declared.fault.RunFault.TheVariants.{Incomplete, UnknownCut}

-- the trace's keys have this gap
abbrev pub HasGap : Trace → Gap → Type 0
HasGap T gap = IsGap (HasKey T) T.processors gap

-- the name of the trace's segment that has this key
abbrev pub name_of : Trace → ℕ → ℕ → SegmentName
name_of T p n = record { trace_id = T.id; processors = T.processors; processor = p; number = n }

-- the input is cut within the trace's segment of this key
abbrev pub IsOfKey : Trace → CutEnd → ℕ → ℕ → Type 0
IsOfKey T cut p n = cut.name ≡ Some (name_of T p n)

-- An input is cut within a segment of the processor, and that one isn't there, or one of a lower number isn't.
abbrev pub MissesUpTo : Trace → CutEnd → ℕ → Type 0
MissesUpTo T cut p = (p < T.processors) × (last n : ℕ) × IsOfKey T cut p last × (n ≤ last) × (HasKey T p n → ⊥)

-- The processor misses a segment: it has a gap, or it misses one up to that of a cut input. (A processor without a segment has a gap.)
abbrev pub Misses : Trace → List CutEnd → ℕ → Type 0
Misses T cuts p =
    ((gap : Gap) × HasGap T gap × (processor_of gap ≡ p)) ⊎ ((cut : CutEnd) × Contains cuts cut × MissesUpTo T cut p)

-- it is known which segment of the trace the input is cut within
abbrev pub IsKnown : Trace → CutEnd → Type 0
IsKnown T cut = (p n : ℕ) × IsOfKey T cut p n

-- Complete: no processor misses a segment, and of each cut input it is known within which one it is cut.
pub record IsComplete (T : Trace) (cuts : List CutEnd) : Type 0 where
  pub whole : (p : ℕ) → Misses T cuts p → ⊥
  pub known : All (IsKnown T) cuts

-- The least missing key: the first missing number of the first processor that misses a segment.
pub record IsLeastMissing (T : Trace) (cuts : List CutEnd) (p n : ℕ) : Type 0 where
  pub there : Misses T cuts p
  pub first : IsFirstMissing T p n
  pub before : (other : ℕ) → Misses T cuts other → p ≤ other

-- No processor misses a segment, and this input is the first that is cut within one of which it isn't known which it is.
pub record IsFirstUnknown (T : Trace) (cuts : List CutEnd) (input : ℕ) : Type 0 where
  pub whole : (p : ℕ) → Misses T cuts p → ⊥
  pub earlier : List CutEnd
  pub cut : CutEnd
  pub later : List CutEnd
  pub parts : cuts ≡ earlier ++ cut ∷ later
  pub known : All (IsKnown T) earlier
  pub unknown : IsKnown T cut → ⊥
  pub input_is : cut.input ≡ input

-- the fault names what keeps the trace from being complete
abbrev pub ReportsMissing : Trace → List CutEnd → RunFault → Type 0
ReportsMissing T cuts (Incomplete processor number) = IsLeastMissing T cuts processor number
ReportsMissing T cuts (UnknownCut input) = IsFirstUnknown T cuts input
ReportsMissing T cuts fault = ⊥
