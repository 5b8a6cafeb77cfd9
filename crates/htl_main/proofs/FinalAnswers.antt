-- An answer as of a moment up to which no segment is missing is that over the whole trace.
use Rattle.std.proofs.Common.{◌≡◌, ◌≢◌, ◌⊎◌, ◌<◌, ◌≤◌, ◌∙◌, ℕ, min, max, List, [], ◌∷◌, Option, Some, None}
use Rattle.std.proofs.Common.{refl, sym, ap, subst, inl, inr, arith}
use Rattle.std.specs.Prelude.{Contains, ◌↔◌, nat_le}
use Rattle.std.proofs.lemmas.Bool.{cases_lt, le-leb, le-ltb, lt-ltb}
use Rattle.htl_event.specs.Events.{Event}
use Rattle.htl_event.specs.Moments.{events_until}
use Rattle.htl_event.specs.declared.growth.Span.{Span}
use Rattle.htl_event.proofs.Members.{Contains-cases, Contains-filter, Contains-flat_map, Contains-from_filter, Contains-from_flat_map}
use Rattle.htl_event.proofs.Members.{Contains-here, Contains-nil, Contains-there, at_member}
use Rattle.htl_segment.specs.Content.{Content, Fits}
use Rattle.htl_segment.specs.Keys.{run_below}
use Rattle.htl_segment.specs.Traces.{Trace, all_events}
use Rattle.htl_segment.proofs.Spans.{above}
use Rattle.htl_segment.proofs.Traces.{members_agree}
use Rattle.htl_case.specs.Final.{IsFinalAt}
use Rattle.htl_case.specs.Spans.{IsSpan, IsSpanOf}
use Rattle.htl_case.proofs.FinalAnswers.{answers_are_final}
use Rattle.htl_case.proofs.SegmentSpans.{from_to}
use Rattle.htl_question.specs.Bases.{Basis}
use Rattle.htl_question.specs.Rows.{Found}
use Rattle.htl_question.specs.declared.question.Question.{Question}
use Rattle.htl_question.specs.declared.question.Question.TheVariants.{Summary}
use Rattle.htl_evidence.specs.Bases.{IsAnswer, IsBasis, span_until}

-- ---- events have a span

widened : (e : Event) (es : List Event) (span : Option Span) → IsSpan es span → (wider : Option Span) × IsSpan (e ∷ es) wider
widened e es None none = (
  Some (from_to e.sequence e.sequence),
  record {
    has_first = (e, Contains-here e es, refl);
    has_last = (e, Contains-here e es, refl);
    between = λ x has. elim (Contains-cases e es x has) [
      | inl is ↦ (let same : e.sequence ≡ x.sequence = ap (λ (y : Event). y.sequence) is in (omega (arith, same), omega (arith, same)))
      | inr there ↦ absurd (Contains-nil x (subst (λ (ys : List Event). Contains ys x) none there))
    ];
  },
)
widened e es (Some span) of = (
  Some (from_to (min e.sequence span.first) (max e.sequence span.last)),
  record {
    has_first = elim (cases_lt e.sequence span.first) [
      | inl lt ↦ (e, Contains-here e es, omega (arith, lt))
      | inr le ↦ (let h = of.has_first in let is = h.2 in (h.0, Contains-there e es h.0 h.1, omega (arith, is, le)))
    ];
    has_last = elim (cases_lt e.sequence span.last) [
      | inl lt ↦ (let h = of.has_last in let is = h.2 in (h.0, Contains-there e es h.0 h.1, omega (arith, is, lt)))
      | inr le ↦ (e, Contains-here e es, omega (arith, le))
    ];
    between = λ x has. elim (Contains-cases e es x has) [
      | inl is ↦ (let same : e.sequence ≡ x.sequence = ap (λ (y : Event). y.sequence) is in (omega (arith, same), omega (arith, same)))
      | inr there ↦ (let within = of.between x there in (omega (arith, within.0), omega (arith, within.1)))
    ];
  },
)

a_span : (es : List Event) → (span : Option Span) × IsSpan es span
a_span [] = (None, refl)
a_span (e ∷ es) = (let rest = a_span es in widened e es rest.0 rest.1)

module _ (T C : Trace) (moment : ℕ) (final : IsFinalAt T C moment) where
  until_then : events_until moment (all_events C.segments) ≡ events_until moment (all_events T.segments)
  until_then = answers_are_final.events T C moment final

  -- ---- the events of the case and those of the trace

  in_trace : (e : Event) → Contains (all_events C.segments) e → Contains (all_events T.segments) e
  in_trace e has =
      let from = Contains-from_flat_map (λ (s : Content). s.events) C.segments e has in
      Contains-flat_map (λ (s : Content). s.events) T.segments from.0 e (final.part.segments from.0 from.1) from.2

  in_case : (e : Event) → Contains (all_events T.segments) e → e.sequence ≤ moment → Contains (all_events C.segments) e
  in_case e has low =
      let counts = Contains-filter (λ (x : Event). nat_le x.sequence moment) (all_events T.segments) e has (le-leb e.sequence moment low) in
      (Contains-from_filter (λ (x : Event). nat_le x.sequence moment) (all_events C.segments) e
      (subst (λ (es : List Event). Contains es e) (sym until_then) counts)).0

  -- no event has the sequence 0
  above_none : (e : Event) → Contains (all_events T.segments) e → 0 < e.sequence
  above_none e has =
      let from = Contains-from_flat_map (λ (s : Content). s.events) T.segments e has in
      let fits = at_member Fits T.segments from.0 final.trace.trace.fit from.1 in
      above (from.0).version 0 (from.0).events fits.events e from.2

  -- the case has an event at the moment or later, or the trace has none until then
  reaches : ((e : Event) × Contains (all_events C.segments) e × (moment ≤ e.sequence))
      ⊎ ((e : Event) → Contains (all_events T.segments) e → moment < e.sequence)
  reaches =
      let unbroken = final.complete.reached in
      let reached = final.reached in
      elim ((unbroken.2).reached) [
        | inl none ↦ inr (λ e has. (let up = above_none e has in omega (arith, reached, none, up)))
        | inr found ↦
            let of = (members_agree (run_below final.complete.processor unbroken.0) C.segments found.0).0 found.1 in
            let is = found.2 in
            inl (found.0, Contains-flat_map (λ (s : Content). s.events) C.segments of.0 found.0 of.1 of.3, omega (arith, reached, is))
      ]

  -- ---- their spans

  cut : (span : Span) → span.first ≤ moment → span_until (Some moment) (Some span) ≡ Some (from_to span.first (min moment span.last))
  cut span within = rw (le-ltb moment span.first within) refl

  cut_alike : (a b : Span) → IsSpanOf (all_events C.segments) a → IsSpanOf (all_events T.segments) b → b.first ≤ moment
      → span_until (Some moment) (Some a) ≡ span_until (Some moment) (Some b)
  cut_alike a b p q within =
      let own = p.has_first in
      let own_is = own.2 in
      let low = (q.between own.0 (in_trace own.0 own.1)).0 in
      let e = q.has_first in
      let is = e.2 in
      let high = (p.between e.0 (in_case e.0 e.1 (omega (arith, is, within)))).0 in
      let first : a.first ≡ b.first = omega (arith, own_is, low, is, high) in
      let last : min moment a.last ≡ min moment b.last =
      elim reaches [
        | inl found ↦
            let in_a = (p.between found.0 found.1).1 in
            let in_b = (q.between found.0 (in_trace found.0 found.1)).1 in
            let at = found.2 in
            omega (arith, in_a, in_b, at)
        | inr none ↦ (let after = none e.0 e.1 in absurd (omega (arith, after, is, within)))
      ] in
      let same : from_to a.first (min moment a.last) ≡ from_to b.first (min moment b.last) =
      ap (λ (n : ℕ). from_to n (min moment a.last)) first ∙ ap (λ (n : ℕ). from_to b.first n) last in
      cut a (omega (arith, first, within)) ∙ ap (λ (s : Span). Some s) same ∙ sym (cut b within)

  -- until the moment, events of the case and of the trace have one span
  spans_agree : (a b : Option Span) → IsSpan (all_events C.segments) a → IsSpan (all_events T.segments) b
      → span_until (Some moment) a ≡ span_until (Some moment) b
  spans_agree None None p q = refl
  spans_agree (Some a) None p q =
      let e = p.has_first in absurd (Contains-nil e.0 (subst (λ (es : List Event). Contains es e.0) q (in_trace e.0 e.1)))
  spans_agree None (Some b) p q =
      let e = q.has_first in
      let is = e.2 in
      elim (cases_lt moment b.first) [
        | inl lt ↦ rw (lt-ltb moment b.first lt) refl
        | inr le ↦ absurd (Contains-nil e.0
            (subst (λ (es : List Event). Contains es e.0) p (in_case e.0 e.1 (omega (arith, is, le)))))
      ]
  spans_agree (Some a) (Some b) p q =
      elim (cases_lt moment b.first) [
        | inl lt ↦
            let own = p.has_first in
            let is = own.2 in
            let low = (q.between own.0 (in_trace own.0 own.1)).0 in
            rw (lt-ltb moment b.first lt, lt-ltb moment a.first (omega (arith, lt, low, is))) refl
        | inr le ↦ cut_alike a b p q le
      ]

  -- ---- over what a question is asked

  of_trace : (question : Question) (B : Basis) → question ≢ Summary → IsBasis C (Some moment) question B → IsBasis T (Some moment) question B
  of_trace question B other is = record {
    events = is.events ∙ until_then;
    span = λ process count same.
        let own = is.span process count same in
        let all = a_span (all_events T.segments) in
        (all.0, all.1, own.2 ∙ spans_agree own.0 all.0 own.1 all.1);
    extent = λ same. absurd (other same);
  }

  of_case : (question : Question) (B : Basis) → question ≢ Summary → IsBasis T (Some moment) question B → IsBasis C (Some moment) question B
  of_case question B other is = record {
    events = is.events ∙ sym until_then;
    span = λ process count same.
        let own = is.span process count same in
        let all = a_span (all_events C.segments) in
        (all.0, all.1, own.2 ∙ sym (spans_agree all.0 own.0 all.1 own.1));
    extent = λ same. absurd (other same);
  }

-- each answer but a summary is final
pub answers_of_runs_are_final : (T C : Trace) (moment : ℕ) → IsFinalAt T C moment → (question : Question) (answer : Found)
    → question ≢ Summary → IsAnswer C (Some moment) question answer ↔ IsAnswer T (Some moment) question answer
answers_of_runs_are_final T C moment final question answer other = (
  λ is. (is.0, of_trace T C moment final question is.0 other is.1, is.2),
  λ is. (is.0, of_case T C moment final question is.0 other is.1, is.2),
)
