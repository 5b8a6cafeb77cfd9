-- The moment up to which events count for a job (this project's own), and what it says of gaps.
use Rattle.std.specs.Prelude.{◌≡◌, ◌==◌, ◌≤◌, ◌⊎◌, ◌&&◌, ⊤, not, ℕ, Bool, true, false, nat_lt, List, Option, Some, None}
use Rattle.htl_segment.specs.Traces.{Trace}
use Rattle.htl_case.specs.Complete.{IsCompleteTo}
use Rattle.htl_command.specs.declared.question.Moment.{Moment}
use Rattle.htl_command.specs.declared.question.Moment.TheVariants.{Sequence, Complete}
use Rattle.htl_inputs.specs.declared.cuts.CutEnd.{CutEnd}
use Rattle.htl_main.specs.Completeness.{IsComplete}
use Rattle.htl_main.specs.declared.coverage.Coverage.{Coverage}

-- The moment that is named: a sequence, or what the trace is complete to. Where none is named, all events count.
abbrev pub IsNamedMoment : Trace → Option Moment → Option ℕ → Type 0
IsNamedMoment T None until = until ≡ None
IsNamedMoment T (Some (Sequence n)) until = until ≡ Some n
IsNamedMoment T (Some Complete) until = (n : ℕ) × IsCompleteTo T n × (until ≡ Some n)

-- the moment is above a sequence, as the end of the trace is
abbrev pub is_above : Option Moment → ℕ → Bool
is_above None n = true
is_above (Some (Sequence moment)) n = nat_lt n moment
is_above (Some Complete) n = false

-- segments are missing, and the moment is above what the case is complete to
abbrev pub is_touched : Coverage → Option Moment → Bool
is_touched coverage until = not (coverage.gaps == 0) && is_above until coverage.complete_to

-- No segment is missing that may have an event which counts: none at all, or none up to the moment. (A cut segment has events only above
-- what the trace is complete to.)
abbrev pub IsCompleteUntil : Trace → List CutEnd → Option Moment → Type 0
IsCompleteUntil T cuts None = IsComplete T cuts
IsCompleteUntil T cuts (Some (Sequence moment)) = IsComplete T cuts ⊎ ((n : ℕ) × IsCompleteTo T n × (moment ≤ n))
IsCompleteUntil T cuts (Some Complete) = ⊤
