-- What an analyst that is asked answers.
use Rattle.std.specs.Prelude.{⊤}
use Rattle.htl_segment.specs.Traces.{Trace, IsTrace}
use Rattle.htl_analyst.specs.States.{State}
use Rattle.htl_analyst.specs.Keys.{keys}
use Rattle.htl_analyst.specs.Right.{IsRight}
use Rattle.htl_case.specs.declared.question.AnalystQuestion.{AnalystQuestion}
use Rattle.htl_case.specs.declared.question.AnalystQuestion.TheVariants as questions
use Rattle.htl_case.specs.declared.question.AnalystAnswer.{AnalystAnswer}
use Rattle.htl_case.specs.Answers.{IsAnswer}

-- Which handles are outstanding is stated only where no two events have one sequence, which no call can test. (A trace is a
-- collection of segments of which this holds.)
abbrev pub IsStated : AnalystQuestion → Trace → Type 0
IsStated (questions.Outstanding process) T = IsTrace T
IsStated (questions.Diff process since) T = IsTrace T
IsStated (questions.Leaks process) T = IsTrace T
IsStated questions.Processes T = IsTrace T
IsStated other T = ⊤

-- For every trace that the state is right about, the definition's value over the taken keys.
abbrev pub AnalystAnswers : State → AnalystQuestion → AnalystAnswer → Type 0
AnalystAnswers a question answer = (T : Trace) → IsStated question T → IsRight a T → IsAnswer T (keys a) question answer
