-- For the clauses of private functions: what is missing of a trace, and which of its processors is the first that misses a segment.
use Rattle.std.specs.Prelude.{◌≡◌, ◌≤◌, ℕ, List, nat_lt, if◌then◌else◌, Option, None, Some}
use Rattle.htl_segment.specs.Traces.{Trace}
use Rattle.htl_evidence.specs.Outlines.{HasExtent}
use Rattle.htl_inputs.specs.declared.cuts.CutEnd.{CutEnd}
use Rattle.htl_main.specs.Completeness.{Misses, MissesUpTo}
use Rattle.htl_main.specs.declared.coverage.Missed.{Missed}

-- what is missing of a trace, as its extent says
pub record IsMissed (T : Trace) (missed : Missed) : Type 0 where
  pub id : missed.trace_id ≡ T.id
  pub extent : HasExtent T missed.extent

-- the lesser of two numbers, of which either may be none
abbrev pub lesser : Option ℕ → Option ℕ → Option ℕ
lesser (Some one) (Some other) = Some (if nat_lt one other then one else other)
lesser one None = one
lesser None other = other

-- of the trace's processors this is the first that misses a segment, or none does
abbrev pub IsFirstShort : Trace → List CutEnd → Option ℕ → Type 0
IsFirstShort T cuts None = (p : ℕ) → Misses T cuts p → ⊥
IsFirstShort T cuts (Some p) = Misses T cuts p × ((other : ℕ) → Misses T cuts other → p ≤ other)

-- where the input is cut within a segment of the trace, this is the processor, if it misses one up to that segment
abbrev pub IsShortUpTo : Trace → CutEnd → Option ℕ → Type 0
IsShortUpTo T cut None = (p : ℕ) → MissesUpTo T cut p → ⊥
IsShortUpTo T cut (Some p) = MissesUpTo T cut p
