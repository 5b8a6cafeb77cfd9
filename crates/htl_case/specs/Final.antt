-- An answer as of a moment up to which no segment is missing is final: it is that over the whole trace, whatever the missing segments
-- hold and however many come later.
use Rattle.std.specs.Prelude.{◌≡◌, ◌↔◌, ℕ, ◌≤◌, Some, Contains}
use Rattle.htl_event.specs.Moments.{events_until, counted_events}
use Rattle.htl_segment.specs.Content.{Content}
use Rattle.htl_segment.specs.Traces.{Trace, all_events}
use Rattle.htl_case.specs.Answers.{IsAnswerOver}
use Rattle.htl_case.specs.Cases.{IsCase}
use Rattle.htl_case.specs.Complete.{IsCompleteTo}
use Rattle.htl_case.specs.declared.question.AnalystQuestion.{AnalystQuestion}
use Rattle.htl_case.specs.declared.question.AnalystAnswer.{AnalystAnswer}

-- some segments of the trace, which may be all
pub record IsPartOf (C T : Trace) : Type 0 where
  pub id : C.id ≡ T.id
  pub processors : C.processors ≡ T.processors
  pub segments : (s : Content) → Contains C.segments s → Contains T.segments s

-- a case of some segments of the trace, of which none is missing up to the moment
pub record IsFinalAt (T C : Trace) (moment : ℕ) : Type 0 where
  pub trace : IsCase T
  pub is_case : IsCase C
  pub part : IsPartOf C T
  pub complete_to : ℕ
  pub complete : IsCompleteTo C complete_to
  pub reached : moment ≤ complete_to

pub record AnswersAreFinal : Type 0 where
  -- The events until the moment are those of the trace, in the same order.
  pub events : (T C : Trace) (moment : ℕ) → IsFinalAt T C moment
      → events_until moment (all_events C.segments) ≡ events_until moment (all_events T.segments)
  -- So what answers a question as of the moment over the case answers it over the trace, and the other way round.
  pub answers : (T C : Trace) (moment : ℕ) → IsFinalAt T C moment → (question : AnalystQuestion) (answer : AnalystAnswer)
      → IsAnswerOver (counted_events (Some moment) (all_events C.segments)) question answer
      ↔ IsAnswerOver (counted_events (Some moment) (all_events T.segments)) question answer
