-- What a summary of a trace says: how much there is of it, and what there is of its events.
use Rattle.std.proofs.Common.{◌≡◌, ◌∙◌, ℕ, List, Option, None, refl, length}
use Rattle.htl_event.specs.Events.{Event}
use Rattle.htl_event.specs.Moments.{counted_events}
use Rattle.htl_event.specs.Summaries.{IsNumberOfObjects, IsProcesses, IsUnbalanced}
use Rattle.htl_event.specs.declared.summary.ObjectRow.{ObjectRow}
use Rattle.htl_event.specs.declared.summary.ProcessRow.{ProcessRow}
use Rattle.htl_segment.specs.Traces.{Trace, all_events}
use Rattle.htl_taken.specs.declared.gap.Gap.{Gap}
use Rattle.htl_question.specs.Bases.{basis, extent}
use Rattle.htl_question.specs.Rows.{found, summary}
use Rattle.htl_question.specs.declared.answer.Totals.{Totals}
use Rattle.htl_question.specs.declared.question.Question.TheVariants as questions
use Rattle.htl_evidence.specs.Bases.{IsAnswer, IsExtentOf}

module _ (T : Trace) (until : Option ℕ) where
  abbrev counted : List Event
  counted = counted_events until (all_events T.segments)

  -- a summary of the trace's extent and these events is the answer over the trace
  pub summarized : (totals : Totals) (gaps : List Gap) (processes : List ProcessRow) (objects : List ObjectRow)
      → IsExtentOf T (extent totals.processors totals.segments gaps totals.complete_to) → totals.events ≡ length counted
      → IsNumberOfObjects counted totals.objects → IsProcesses counted processes → IsUnbalanced counted objects
      → IsAnswer T until questions.Summary (found questions.Summary None (summary totals gaps processes objects))
  summarized totals gaps processes objects is events number rows unbalanced = (
    basis counted None (extent totals.processors totals.segments gaps totals.complete_to),
    record { events = refl; span = λ process count same. absurd (cc same); extent = λ same. is },
    record {
      asked = refl;
      since = refl;
      rows = (
        totals,
        gaps,
        processes,
        objects,
        refl,
        record {
          processors = refl;
          segments = refl;
          complete_to = refl;
          gaps_are = refl;
          events_are = events;
          number = number;
          processes_are = rows;
          objects_are = unbalanced;
        },
      );
    },
  )

  -- and such an answer says just that
  pub summary_says : (totals : Totals) (gaps : List Gap) (processes : List ProcessRow) (objects : List ObjectRow)
      → IsAnswer T until questions.Summary (found questions.Summary None (summary totals gaps processes objects))
      → IsExtentOf T (extent totals.processors totals.segments gaps totals.complete_to) × (totals.events ≡ length counted)
      × IsNumberOfObjects counted totals.objects × IsProcesses counted processes × IsUnbalanced counted objects
  summary_says totals gaps processes objects (B, is, over) =
      let rows = over.rows in
      let says = rows.5 in
      let there = is.extent refl in
      let same_totals : totals ≡ rows.0 = cc (rows.4) in
      let same_gaps : gaps ≡ rows.1 = cc (rows.4) in
      let same_processes : processes ≡ rows.2 = cc (rows.4) in
      let same_objects : objects ≡ rows.3 = cc (rows.4) in
      rw (same_totals, same_gaps, same_processes, same_objects) (
        record {
          processors = says.processors ∙ there.processors;
          segments = says.segments ∙ there.segments;
          gaps = rw says.gaps_are there.gaps;
          complete_to = rw says.complete_to there.complete_to;
        },
        rw is.events at says.events_are,
        rw is.events at says.number,
        rw is.events at says.processes_are,
        rw is.events at says.objects_are,
      )
