-- A trace has one answer to a question.
use Rattle.std.proofs.Common.{◌≡◌, ℕ, List, [], Option, Some, None, ap, refl, sym, subst, ◌∙◌, arith}
use Rattle.std.specs.Prelude.{Contains}
use Rattle.htl_event.specs.Events.{Event}
use Rattle.htl_event.specs.declared.growth.Span.{Span}
use Rattle.htl_event.proofs.Members.{Contains-nil, Lists-same}
use Rattle.htl_segment.specs.Traces.{Trace, HasKey, all_events}
use Rattle.htl_taken.specs.Gaps.{IsGap, IsGapBefore, IsGaps}
use Rattle.htl_taken.specs.declared.gap.Gap.{Gap}
use Rattle.htl_taken.proofs.Gaps.{IsGapBefore-strict}
use Rattle.htl_case.specs.Complete.{IsCompleteTo}
use Rattle.htl_case.specs.Spans.{IsSpan}
use Rattle.htl_question.specs.Answers.{AreRows, IsSinceIfGiven, process_of}
use Rattle.htl_question.specs.Bases.{Basis, Extent, basis, with_events}
use Rattle.htl_question.specs.Questions.{asks_since}
use Rattle.htl_question.specs.Rows.{Found, Listed}
use Rattle.htl_question.specs.declared.question.Question.{Question}
use Rattle.htl_question.specs.declared.question.Question.TheVariants.{Growth, Summary}
use Rattle.htl_question.proofs.OneAnswer.{one_answer as one_over}
use Rattle.htl_evidence.specs.Bases.{IsAnswer, IsExtentOf, IsSpanUntil, span_until}

no_member : (events : List Event) → events ≡ [] → (e : Event) → Contains events e → ⊥
no_member events none e h = Contains-nil e (subst (λ (es : List Event). Contains es e) none h)

same_span : (a b : Span) → a.first ≡ b.first → a.last ≡ b.last → a ≡ b
same_span a b f l = λ i. record { first = f i; last = l i }

-- of two spans of the same events each has what the other has
one_span : (events : List Event) (a b : Option Span) → IsSpan events a → IsSpan events b → a ≡ b
one_span events None None p q = refl
one_span events None (Some b) p q = absurd (no_member events p q.has_first.0 q.has_first.1)
one_span events (Some a) None p q = absurd (no_member events q p.has_first.0 p.has_first.1)
one_span events (Some a) (Some b) p q =
    let low = (p.between q.has_first.0 q.has_first.1).0 in
    let low_too = (q.between p.has_first.0 p.has_first.1).0 in
    let high = (p.between q.has_last.0 q.has_last.1).1 in
    let high_too = (q.between p.has_last.0 p.has_last.1).1 in
    let first : a.first ≡ b.first = omega (arith, low, low_too, p.has_first.2, q.has_first.2) in
    let last : a.last ≡ b.last = omega (arith, high, high_too, p.has_last.2, q.has_last.2) in
    ap (λ (s : Span). Some s) (same_span a b first last)

one_span_until : (T : Trace) (until : Option ℕ) (a b : Option Span) → IsSpanUntil T until a → IsSpanUntil T until b → a ≡ b
one_span_until T until a b p q = p.2 ∙ ap (span_until until) (one_span (all_events T.segments) p.0 q.0 p.1 q.1) ∙ sym q.2

-- a trace is complete to one sequence
pub one_complete : (T : Trace) (n m : ℕ) → IsCompleteTo T n → IsCompleteTo T m → n ≡ m
one_complete T n m p q =
    let le = p.bound q.processor m q.within q.reached in
    let ge = q.bound p.processor n p.within p.reached in
    omega (arith, le, ge)

-- a trace has one list of gaps
pub one_gaps : (T : Trace) (a b : List Gap) → IsGaps (HasKey T) T.processors a → IsGaps (HasKey T) T.processors b → a ≡ b
one_gaps T a b =
    Lists-same IsGapBefore IsGapBefore-strict (IsGap (HasKey T) T.processors) (IsGap (HasKey T) T.processors) a b
    (λ gap. ((λ h. h), (λ h. h)))

one_extent : (T : Trace) (a b : Extent) → IsExtentOf T a → IsExtentOf T b → a ≡ b
one_extent T a b p q =
    let processors = p.processors ∙ sym q.processors in
    let segments = p.segments ∙ sym q.segments in
    let gaps = one_gaps T a.gaps b.gaps p.gaps q.gaps in
    let complete_to = one_complete T a.complete_to b.complete_to p.complete_to q.complete_to in
    λ i. record { processors = processors i; segments = segments i; gaps = gaps i; complete_to = complete_to i }

-- the rows are those over another basis with the same events, for a growth with the same span, and for a summary with the same extent
moved : (A B : Basis) (question : Question) → A.events ≡ B.events
    → ((process count : ℕ) → question ≡ Growth process count → A.span ≡ B.span) → (question ≡ Summary → A.extent ≡ B.extent)
    → (since : Option ℕ) (rows : Listed) → AreRows A question since rows → AreRows B question since rows
moved A B (Growth process count) events span there since rows are =
    let same : basis A.events A.span B.extent ≡ B = λ i. record { events = events i; span = span process count refl i; extent = B.extent } in
    subst (λ (C : Basis). AreRows C (Growth process count) since rows) same are
moved A B Summary events span there since rows are =
    let same : basis A.events B.span A.extent ≡ B = λ i. record { events = events i; span = B.span; extent = there refl i } in
    subst (λ (C : Basis). AreRows C Summary since rows) same are
moved A B question events span there since rows are = subst (λ (es : List Event). AreRows (with_events es A) question since rows) events are

-- two answers to a question over a trace are one
pub one_answer : (T : Trace) (until : Option ℕ) (question : Question) (a b : Found) → IsAnswer T until question a
    → IsAnswer T until question b → a ≡ b
one_answer T until question a b (A, p, over_a) (B, q, over_b) =
    let events = p.events ∙ sym q.events in
    let rows = moved A B question events (λ process count is. one_span_until T until A.span B.span (p.span process count is) (q.span process count is))
    (λ is. one_extent T A.extent B.extent (p.extent is) (q.extent is)) a.since a.rows over_a.rows in
    let since = subst (λ (es : List Event). IsSinceIfGiven es (process_of question) (asks_since question) a.since) events over_a.since in
    one_over B question a b (record { asked = over_a.asked; since = since; rows = rows }) over_b
