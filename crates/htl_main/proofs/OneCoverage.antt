-- All segments of inputs have one coverage, and a summary of their case reports the same.
use Rattle.std.proofs.Common.{◌≡◌, ℕ, List, Option, None, length, ap, sym, ◌∙◌, subst}
use Rattle.htl_command.specs.declared.question.InputForm.{InputForm}
use Rattle.htl_segment.specs.Content.{Content}
use Rattle.htl_segment.specs.Traces.{Trace}
use Rattle.htl_case.proofs.Outcomes.{one_case}
use Rattle.htl_case.specs.Cases.{IsCaseOf}
use Rattle.htl_taken.specs.declared.gap.Gap.{Gap}
use Rattle.htl_event.specs.declared.summary.ObjectRow.{ObjectRow}
use Rattle.htl_event.specs.declared.summary.ProcessRow.{ProcessRow}
use Rattle.htl_question.specs.Rows.{found, summary}
use Rattle.htl_question.specs.declared.answer.Totals.{Totals}
use Rattle.htl_question.specs.declared.question.Question.TheVariants as questions
use Rattle.htl_main.specs.Coverages.{Covers, IsCoverage}
use Rattle.htl_evidence.specs.Bases.{IsAnswer}
use Rattle.htl_main.specs.declared.coverage.Coverage.{Coverage}
use Rattle.htl_main.proofs.OneOutcome.{one_decoding}
use Rattle.htl_main.proofs.Bases.{summary_says}
use Rattle.htl_evidence.proofs.OneAnswer.{one_complete, one_gaps}

abbrev coverage_of : ℕ → ℕ → Coverage
coverage_of gaps complete_to = record { gaps = gaps; complete_to = complete_to }

of_trace : (T : Trace) (a b : Coverage) → IsCoverage T a → IsCoverage T b → a ≡ b
of_trace T a b p q =
    let gaps : a.gaps ≡ b.gaps = p.counted ∙ ap length (one_gaps T p.gaps q.gaps p.are_gaps q.are_gaps) ∙ sym q.counted in
    let complete_to = one_complete T a.complete_to b.complete_to p.complete_to q.complete_to in
    ap (λ (n : ℕ). coverage_of n a.complete_to) gaps ∙ ap (λ (n : ℕ). coverage_of b.gaps n) complete_to

-- inputs have one coverage
pub one_coverage : (form : InputForm) (inputs : List (List ℕ)) (a b : Coverage) → Covers form inputs a → Covers form inputs b → a ≡ b
one_coverage form inputs a b p q =
    let same = one_decoding form inputs p.0 q.0 p.1 q.1 in
    let trace = one_case q.0 p.2.0 q.2.0 (subst (λ (ss : List Content). IsCaseOf ss p.2.0) same p.2.1) q.2.1 in
    of_trace q.2.0 a b (subst (λ (T : Trace). IsCoverage T a) trace p.2.2) q.2.2

-- a summary has as many gaps as the coverage says, and is complete to the same sequence
pub summary_reports : (T : Trace) (until : Option ℕ) (coverage : Coverage) (totals : Totals) (gaps : List Gap) (processes : List ProcessRow)
    (objects : List ObjectRow) → IsCoverage T coverage
    → IsAnswer T until questions.Summary (found questions.Summary None (summary totals gaps processes objects))
    → (coverage.gaps ≡ length gaps) × (coverage.complete_to ≡ totals.complete_to)
summary_reports T until coverage totals gaps processes objects is reported =
    let there = (summary_says T until totals gaps processes objects reported).0 in (
      is.counted ∙ ap length (one_gaps T is.gaps gaps is.are_gaps there.gaps),
      one_complete T coverage.complete_to totals.complete_to is.complete_to there.complete_to,
    )
