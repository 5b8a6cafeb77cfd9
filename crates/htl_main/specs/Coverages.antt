-- How much of its trace a case has (this project's own): how many gaps there are, and up to which sequence no segment
-- is missing.
use Rattle.std.specs.Prelude.{◌≡◌, ℕ, List, length}
use Rattle.htl_command.specs.declared.question.InputForm.{InputForm}
use Rattle.htl_segment.specs.Content.{Content}
use Rattle.htl_segment.specs.Traces.{Trace, HasKey}
use Rattle.htl_case.specs.Complete.{IsCompleteTo}
use Rattle.htl_taken.specs.Gaps.{IsGaps}
use Rattle.htl_taken.specs.declared.gap.Gap.{Gap}
use Rattle.htl_case.specs.Cases.{IsCaseOf}
use Rattle.htl_inputs.specs.Inputs.{DecodeAll}
use Rattle.htl_main.specs.declared.coverage.Coverage.{Coverage}

-- Coverage: the number of the gaps of a trace's keys, and what the trace is complete to.
pub record IsCoverage (T : Trace) (coverage : Coverage) : Type 0 where
  pub gaps : List Gap
  pub are_gaps : IsGaps (HasKey T) T.processors gaps
  pub counted : coverage.gaps ≡ length gaps
  pub complete_to : IsCompleteTo T coverage.complete_to

-- the coverage of the case of decoded segments
abbrev pub CoversSegments : List Content → Coverage → Type 0
CoversSegments segments coverage = (T : Trace) × IsCaseOf segments T × IsCoverage T coverage

-- the coverage of the case of all segments of the inputs
abbrev pub Covers : InputForm → List (List ℕ) → Coverage → Type 0
Covers form inputs coverage = (segments : List Content) × DecodeAll form inputs segments × CoversSegments segments coverage
