-- An analyst's answers over the keys of a case are what a summary says of it, and a folded analyst has these keys.
use Rattle.std.proofs.Common.{◌≡◌, ℕ, Bool, List, Vec, Global, Some, sym, ◌∙◌}
use Rattle.std.specs.Prelude.{None, Contains, ◌↔◌}
use Rattle.htl_event.specs.declared.summary.ObjectRow.{ObjectRow}
use Rattle.htl_event.specs.declared.summary.ProcessRow.{ProcessRow}
use Rattle.htl_event.proofs.Members.{at_member, some_member}
use Rattle.htl_segment.specs.Content.{Content}
use Rattle.htl_segment.specs.Traces.{Trace, IsTrace}
use Rattle.htl_taken.specs.declared.gap.Gap.{Gap}
use Rattle.htl_analyst.specs.Keys.{keys}
use Rattle.htl_analyst.specs.Right.{IsRight}
use Rattle.htl_analyst.specs.States.{State}
use Rattle.htl_analyst.specs.TakenAll.{IsFirstOf}
use Rattle.htl_analyst.proofs.Held.{collection_of}
use Rattle.htl_analyst.proofs.KeyEvents.{keys_taken, taken_keys}
use Rattle.htl_case.specs.TakenCases.{IsTakenCase}
use Rattle.htl_case.specs.declared.question.AnalystAnswer.TheVariants as told
use Rattle.htl_case.specs.declared.question.AnalystQuestion.TheVariants as analysts
use Rattle.htl_case.proofs.TakenCases.{taken_cases_answer}
use Rattle.htl_question.specs.Rows.{found, summary}
use Rattle.htl_question.specs.declared.answer.Totals.{Totals}
use Rattle.htl_question.specs.declared.question.Question.TheVariants as questions
use Rattle.htl_main.specs.Analysts.{AreAnswers}
use Rattle.htl_main.specs.Folding.{AreTaken, IsCaseOfFirsts}
use Rattle.htl_evidence.specs.Bases.{IsAnswer}
use Rattle.htl_main.proofs.Bases.{summarized, summary_says}
use Rattle.htl_main.proofs.FoldLaws.{all_keys, all_of_case, is_right}

-- a summary of a case says exactly what an analyst answers over the keys of the case
pub summaries_agree : (T : Trace) (S : ℕ → ℕ → Bool) (C : Trace) (totals : Totals) (gaps : Vec Gap Global)
    (processes : Vec ProcessRow Global) (objects : Vec ObjectRow Global) → IsTakenCase T S C
    → IsAnswer C None questions.Summary (found questions.Summary None (summary totals gaps.items processes.items objects.items))
    ↔ AreAnswers T S C totals gaps processes objects
summaries_agree T S C totals gaps processes objects is =
    let law = taken_cases_answer T S C is in
    let events = law.about_events analysts.Events tt (told.Events totals.events) in
    let rows = law.about_events analysts.Processes tt (told.Processes processes) in
    let unbalanced = law.about_events analysts.Objects tt (told.Objects totals.objects objects) in (
      λ answer.
          let says = summary_says C None totals gaps.items processes.items objects.items answer in
          record {
            processors = says.0.processors;
            complete_to = says.0.complete_to;
            taken = (law.taken totals.segments).1 says.0.segments;
            events = events.1 says.1;
            gaps_are = (law.gaps gaps).1 says.0.gaps;
            processes_are = rows.1 says.3;
            objects_are = unbalanced.1 (says.2, says.4);
          },
      λ answers.
          let both = unbalanced.0 answers.objects_are in
          summarized C None totals gaps.items processes.items objects.items (record {
            processors = answers.processors;
            segments = (law.taken totals.segments).0 answers.taken;
            gaps = (law.gaps gaps).0 answers.gaps_are;
            complete_to = answers.complete_to;
          }) (events.0 answers.events) both.0 (rows.0 answers.processes_are) both.1,
    )

-- what was folded is an analyst of each trace that has the first segments of all keys, with exactly the keys of their case
pub folded_analysts_agree : (T : Trace) (segments : List Content) (a : State) (C : Trace) → IsTrace T
    → ((s : Content) → IsFirstOf segments s → Contains T.segments s) → AreTaken segments (Some a) → IsCaseOfFirsts segments C
    → IsRight a T × IsTakenCase T (keys a) C
folded_analysts_agree T segments a C trace each taken case =
    let some = taken.0 in
    let took = taken.1 in
    let one = some_member C.segments case.is_case.some in
    let of_C = at_member (λ s. (s.trace_id ≡ C.id) × (s.processors ≡ C.processors)) C.segments one.0 case.is_case.trace.same one.1 in
    let of_T = at_member (λ s. (s.trace_id ≡ T.id) × (s.processors ≡ T.processors)) T.segments one.0 trace.same
    (each one.0 ((case.members one.0).0 one.1)) in (
      is_right segments a T took some (collection_of T trace) each,
      record {
        trace = trace;
        is_case = case.is_case.trace;
        part = record {
          id = sym of_C.0 ∙ of_T.0;
          processors = sym of_C.1 ∙ of_T.1;
          segments = λ s h. each s ((case.members s).0 h);
        };
        keys = λ p n.
            let both = all_keys segments a C took some (all_of_case segments C case) p n in
            (λ t. both.0 (keys_taken a p n t), λ key. taken_keys a p n (both.1 key));
      },
    )
