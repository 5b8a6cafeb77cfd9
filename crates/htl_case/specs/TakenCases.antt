-- What an analyst answers that took exactly the segments of a case: it answers over the events of the case.
use Rattle.std.specs.Prelude.{◌≡◌, ◌↔◌, ℕ, Bool, true, ⊤, filter, length}
use Rattle.std.specs.Global.{Vec}
use Rattle.htl_segment.specs.Traces.{Trace, IsTrace, HasKey, key_is_in, all_events, events_of}
use Rattle.htl_taken.specs.Gaps.{IsGaps}
use Rattle.htl_taken.specs.declared.gap.Gap.{Gap}
use Rattle.htl_case.specs.Answers.{IsAnswer, IsAnswerOver}
use Rattle.htl_case.specs.Final.{IsPartOf}
use Rattle.htl_case.specs.declared.question.AnalystQuestion.{AnalystQuestion}
use Rattle.htl_case.specs.declared.question.AnalystQuestion.TheVariants as questions
use Rattle.htl_case.specs.declared.question.AnalystAnswer.{AnalystAnswer}
use Rattle.htl_case.specs.declared.question.AnalystAnswer.TheVariants as answers

-- The set has exactly the keys of the case, whose segments are some of the trace. (A case is such a trace.)
pub record IsTakenCase (T : Trace) (S : ℕ → ℕ → Bool) (C : Trace) : Type 0 where
  pub trace : IsTrace T
  pub is_case : IsTrace C
  pub part : IsPartOf C T
  pub keys : (p n : ℕ) → (S p n ≡ true) ↔ HasKey C p n

-- the question is about the events of segments, and not about the segments themselves
abbrev pub IsAboutEvents : AnalystQuestion → Type 0
IsAboutEvents (questions.Has processor number) = ⊥
IsAboutEvents questions.Taken = ⊥
IsAboutEvents questions.Gaps = ⊥
IsAboutEvents other = ⊤

pub record AnswersAreOfTheCase (T : Trace) (S : ℕ → ℕ → Bool) (C : Trace) : Type 0 where
  -- The trace's segments with these keys are those of the case, and so are their events, in the same order.
  pub segments : filter (key_is_in S) T.segments ≡ C.segments
  pub events : events_of S T.segments ≡ all_events C.segments
  -- So an answer over the keys is an answer over the events of the case, and the other way round.
  pub about_events : (question : AnalystQuestion) → IsAboutEvents question → (answer : AnalystAnswer)
      → IsAnswer T S question answer ↔ IsAnswerOver (all_events C.segments) question answer
  -- What it answers about the segments themselves is so of the case.
  pub has : (processor number : ℕ) (is : Bool)
      → IsAnswer T S (questions.Has processor number) (answers.Has is) ↔ ((is ≡ true) ↔ HasKey C processor number)
  pub taken : (number : ℕ) → IsAnswer T S questions.Taken (answers.Taken number) ↔ (number ≡ length C.segments)
  pub gaps : (gaps : Vec Gap) → IsAnswer T S questions.Gaps (answers.Gaps gaps) ↔ IsGaps (HasKey C) C.processors gaps.items

abbrev pub TakenCasesAnswer : Type 0
TakenCasesAnswer = (T : Trace) (S : ℕ → ℕ → Bool) (C : Trace) → IsTakenCase T S C → AnswersAreOfTheCase T S C
