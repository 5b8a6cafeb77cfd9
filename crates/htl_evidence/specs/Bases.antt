-- Over what a question is asked about a trace (this project's own), whose events count up to a moment where one is given; and the answer to
-- it.
use Rattle.std.specs.Prelude.{◌≡◌, ℕ, nat_lt, min, if◌then◌else◌, length, Option, Some, None}
use Rattle.htl_event.specs.Moments.{counted_events}
use Rattle.htl_event.specs.declared.growth.Span.{Span}
use Rattle.htl_segment.specs.Traces.{Trace, HasKey, all_events}
use Rattle.htl_taken.specs.Gaps.{IsGaps}
use Rattle.htl_case.specs.Complete.{IsCompleteTo}
use Rattle.htl_case.specs.Spans.{IsSpan}
use Rattle.htl_question.specs.Answers.{IsAnswerOver}
use Rattle.htl_question.specs.Bases.{Basis, Extent}
use Rattle.htl_question.specs.Rows.{Found}
use Rattle.htl_question.specs.declared.question.Question.{Question}
use Rattle.htl_question.specs.declared.question.Question.TheVariants.{Growth, Summary}

-- the span up to a moment, none where that comes before its first sequence
abbrev pub span_until : Option ℕ → Option Span → Option Span
span_until None span = span
span_until (Some moment) None = None
span_until (Some moment) (Some span) = if nat_lt moment span.first then None else Some (record span { last = min moment span.last })

-- from the first sequence of a trace to its last, or to a moment before that
abbrev pub IsSpanUntil : Trace → Option ℕ → Option Span → Type 0
IsSpanUntil T until span = (all : Option Span) × IsSpan (all_events T.segments) all × (span ≡ span_until until all)

-- How much there is of a trace: the moment is no matter.
pub record IsExtentOf (T : Trace) (extent : Extent) : Type 0 where
  pub processors : extent.processors ≡ T.processors
  pub segments : extent.segments ≡ length T.segments
  pub gaps : IsGaps (HasKey T) T.processors extent.gaps
  pub complete_to : IsCompleteTo T extent.complete_to

-- Over what a question is asked: the events of the trace that count. Only a growth is about their span, and only a summary about how much
-- there is of the trace.
pub record IsBasis (T : Trace) (until : Option ℕ) (question : Question) (B : Basis) : Type 0 where
  pub events : B.events ≡ counted_events until (all_events T.segments)
  pub span : (process count : ℕ) → question ≡ Growth process count → IsSpanUntil T until B.span
  pub extent : question ≡ Summary → IsExtentOf T B.extent

-- the answer to a question over a trace
abbrev pub IsAnswer : Trace → Option ℕ → Question → Found → Type 0
IsAnswer T until question answer = (B : Basis) × IsBasis T until question B × IsAnswerOver B question answer
