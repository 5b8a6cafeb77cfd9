-- What an analyst answers of all that a summary says.
use Rattle.std.specs.Prelude.{◌≡◌, ℕ, Bool}
use Rattle.std.specs.Global.{Vec}
use Rattle.htl_event.specs.declared.summary.ObjectRow.{ObjectRow}
use Rattle.htl_event.specs.declared.summary.ProcessRow.{ProcessRow}
use Rattle.htl_segment.specs.Traces.{Trace}
use Rattle.htl_taken.specs.declared.gap.Gap.{Gap}
use Rattle.htl_case.specs.Answers.{IsAnswer}
use Rattle.htl_case.specs.Complete.{IsCompleteTo}
use Rattle.htl_case.specs.declared.question.AnalystAnswer.TheVariants as found
use Rattle.htl_case.specs.declared.question.AnalystQuestion.TheVariants as analysts
use Rattle.htl_question.specs.declared.answer.Totals.{Totals}

-- Over the segments of the trace whose keys are in the set these are an analyst's answers. The number of processors, and up to which
-- sequence no segment is missing, are no questions to it: they are those of the case of these segments.
pub record AreAnswers (T : Trace) (S : ℕ → ℕ → Bool) (C : Trace) (totals : Totals) (gaps : Vec Gap) (processes : Vec ProcessRow)
    (objects : Vec ObjectRow) : Type 0 where
  pub processors : totals.processors ≡ C.processors
  pub complete_to : IsCompleteTo C totals.complete_to
  pub taken : IsAnswer T S analysts.Taken (found.Taken totals.segments)
  pub events : IsAnswer T S analysts.Events (found.Events totals.events)
  pub gaps_are : IsAnswer T S analysts.Gaps (found.Gaps gaps)
  pub processes_are : IsAnswer T S analysts.Processes (found.Processes processes)
  pub objects_are : IsAnswer T S analysts.Objects (found.Objects totals.objects objects)
