-- The segments of a trace with the keys of a case are those of the case.
use Rattle.std.proofs.Common.{◌≡◌, ℕ, Bool, true, List, Vec, Global, length, refl, sym, ap, ◌∙◌, subst, inl, inr}
use Rattle.std.specs.Prelude.{Contains, ◌↔◌, filter}
use Rattle.std.proofs.lemmas.Bool.{cases_Bool, both_ways}
use Rattle.std.proofs.lemmas.List.Sums.{length-filter}
use Rattle.htl_event.specs.Events.{Event}
use Rattle.htl_event.proofs.Members.{Contains-filter, Contains-from_filter, same_members}
use Rattle.htl_segment.specs.Content.{Content}
use Rattle.htl_segment.specs.Traces.{Trace, HasKey, IsBefore, all_events, events_of, key_is_in}
use Rattle.htl_segment.proofs.Traces.{filter_in_order}
use Rattle.htl_taken.specs.Gaps.{IsGaps}
use Rattle.htl_taken.specs.declared.gap.Gap.{Gap}
use Rattle.htl_taken.proofs.Gaps.{gaps_agree}
use Rattle.htl_analyst.proofs.Held.{one_segment}
use Rattle.htl_case.specs.Answers.{IsAnswer, IsAnswerOver}
use Rattle.htl_case.specs.TakenCases.{IsTakenCase, IsAboutEvents, TakenCasesAnswer}
use Rattle.htl_case.specs.declared.question.AnalystQuestion.{AnalystQuestion}
use Rattle.htl_case.specs.declared.question.AnalystQuestion.TheVariants as questions
use Rattle.htl_case.specs.declared.question.AnalystAnswer.{AnalystAnswer}
use Rattle.htl_case.specs.declared.question.AnalystAnswer.TheVariants as answers
use Rattle.htl_case.proofs.Outcomes.{in_order_strict, in_order_rises}

module _ (T : Trace) (S : ℕ → ℕ → Bool) (C : Trace) (is : IsTakenCase T S C) where
  in_case : (s : Content) → Contains (filter (key_is_in S) T.segments) s → Contains C.segments s
  in_case s h =
      let there = Contains-from_filter (key_is_in S) T.segments s h in
      let key = (is.keys s.processor s.number).0 there.1 in
      let same = one_segment T.segments is.trace.in_order key.0 s (is.part.segments key.0 key.1) there.0 key.2 key.3 in
      subst (λ (x : Content). Contains C.segments x) same key.1

  of_case : (s : Content) → Contains C.segments s → Contains (filter (key_is_in S) T.segments) s
  of_case s h =
      Contains-filter (key_is_in S) T.segments s (is.part.segments s h) ((is.keys s.processor s.number).1 (s, h, refl, refl))

  segments_are : filter (key_is_in S) T.segments ≡ C.segments
  segments_are =
      same_members IsBefore in_order_strict (filter (key_is_in S) T.segments) C.segments
      (in_order_rises (filter (key_is_in S) T.segments) (filter_in_order (key_is_in S) T.segments is.trace.in_order))
      (in_order_rises C.segments is.is_case.in_order) in_case of_case

  events_are : events_of S T.segments ≡ all_events C.segments
  events_are = ap all_events segments_are

  abbrev Both : AnalystQuestion → AnalystAnswer → Type 0
  Both question answer = IsAnswer T S question answer ↔ IsAnswerOver (all_events C.segments) question answer

  moved : (question : AnalystQuestion) (answer : AnalystAnswer)
      → IsAnswerOver (events_of S T.segments) question answer ↔ IsAnswerOver (all_events C.segments) question answer
  moved question answer = (
    subst (λ (es : List Event). IsAnswerOver es question answer) events_are,
    subst (λ (es : List Event). IsAnswerOver es question answer) (sym events_are),
  )

  answers_are : (question : AnalystQuestion) → IsAboutEvents question → (answer : AnalystAnswer) → Both question answer
  answers_are (questions.Has processor number) about answer = absurd about
  answers_are questions.Taken about answer = absurd about
  answers_are questions.Gaps about answer = absurd about
  answers_are questions.Events about answer = moved questions.Events answer
  answers_are (questions.Latest process handle) about answer = moved (questions.Latest process handle) answer
  answers_are (questions.Mark process) about answer = moved (questions.Mark process) answer
  answers_are (questions.Outstanding process) about answer = moved (questions.Outstanding process) answer
  answers_are (questions.Diff process since) about answer = moved (questions.Diff process since) answer
  answers_are (questions.Leaks process) about answer = moved (questions.Leaks process) answer
  answers_are (questions.Bad process) about answer = moved (questions.Bad process) answer
  answers_are (questions.Tags object) about answer = moved (questions.Tags object) answer
  answers_are (questions.Stacks object tag) about answer = moved (questions.Stacks object tag) answer
  answers_are (questions.Tally slot stack) about answer = moved (questions.Tally slot stack) answer
  answers_are (questions.Under path slot) about answer = moved (questions.Under path slot) answer
  answers_are questions.Processes about answer = moved questions.Processes answer
  answers_are questions.Objects about answer = moved questions.Objects answer

  has_is : (processor number : ℕ) (b : Bool) → (b ≡ S processor number) ↔ ((b ≡ true) ↔ HasKey C processor number)
  has_is processor number b = (
    λ same. (
      λ t. (is.keys processor number).0 (sym same ∙ t),
      λ key. same ∙ (is.keys processor number).1 key,
    ),
    λ both. elim (cases_Bool (S processor number)) [
      | inl t ↦ both.1 ((is.keys processor number).0 t) ∙ sym t
      | inr f ↦ elim (cases_Bool b) [
        | inl t ↦ absurd (both_ways (S processor number) f ((is.keys processor number).1 (both.0 t)))
        | inr none ↦ none ∙ sym f
      ]
    ],
  )

  number_is : (n : ℕ) → IsAnswer T S questions.Taken (answers.Taken n) ↔ (n ≡ length C.segments)
  number_is n =
      let counted = sym (length-filter (key_is_in S) T.segments) ∙ ap length segments_are in
      (λ h. h ∙ counted, λ h. h ∙ sym counted)

  gaps_are : (gaps : Vec Gap Global) → IsAnswer T S questions.Gaps (answers.Gaps gaps) ↔ IsGaps (HasKey C) C.processors gaps.items
  gaps_are gaps =
      let of_S : ℕ → ℕ → Type 0 = λ p n. S p n ≡ true in (
        λ h. subst (λ (count : ℕ). IsGaps (HasKey C) count gaps.items) (sym is.part.processors)
            (gaps_agree of_S (HasKey C) T.processors gaps.items (λ p n lt. is.keys p n) h),
        λ h. gaps_agree (HasKey C) of_S T.processors gaps.items (λ p n lt. ((is.keys p n).1, (is.keys p n).0))
            (subst (λ (count : ℕ). IsGaps (HasKey C) count gaps.items) is.part.processors h),
      )

-- over the keys of a case an analyst's answers are those over the case
pub taken_cases_answer : TakenCasesAnswer
taken_cases_answer T S C is = record {
  segments = segments_are T S C is;
  events = events_are T S C is;
  about_events = answers_are T S C is;
  has = has_is T S C is;
  taken = number_is T S C is;
  gaps = gaps_are T S C is;
}
