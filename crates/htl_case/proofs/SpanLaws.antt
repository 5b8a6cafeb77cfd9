-- The span of events is begun and widened by one segment after another.
use Rattle.std.proofs.Common.{◌≡◌, ℕ, ◌+◌, ◌<◌, min, max, List, [], ◌++◌, length, get_or, map, take, Option}
use Rattle.std.proofs.Common.{refl, sym, ap, ◌∙◌, subst, inl, inr, arith}
use Rattle.std.proofs.lemmas.Bool.{cases_lt}
use Rattle.std.proofs.lemmas.List.Elements.{Contains-append_cases, Contains-append_left, Contains-append_right}
use Rattle.std.specs.List.{AllByRecursion}
use Rattle.htl_event.specs.Events.{Event}
use Rattle.htl_event.specs.declared.growth.Span.{Span}
use Rattle.htl_segment.specs.Content.{Content, Fits}
use Rattle.htl_segment.specs.Outlines.{outline_of, first_sequence}
use Rattle.htl_segment.specs.Traces.{all_events}
use Rattle.htl_segment.specs.declared.outline.Outline.{Outline}
use Rattle.htl_segment.proofs.Greatest.{all_events-more}
use Rattle.htl_case.specs.Spans.{IsSpan, IsSpanOf}
use Rattle.htl_case.proofs.Counted.{fits_at}
use Rattle.htl_case.proofs.Scanned.{behind}
use Rattle.htl_case.proofs.SegmentSpans.{from_to, none_or_some}

-- events with a span after others with one
joined : (xs ys : List Event) (a b : Span) (first last : ℕ) → first ≡ min a.first b.first → last ≡ max a.last b.last → IsSpanOf xs a
    → IsSpanOf ys b → IsSpanOf (xs ++ ys) (from_to first last)
joined xs ys a b first last low high x y = record {
  has_first = elim (cases_lt a.first b.first) [
    | inl lt ↦ (let h = x.has_first in (h.0, Contains-append_left xs ys h.0 h.1, h.2 ∙ omega (arith, low, lt)))
    | inr le ↦ (let h = y.has_first in (h.0, Contains-append_right xs ys h.0 h.1, h.2 ∙ omega (arith, low, le)))
  ];
  has_last = elim (cases_lt a.last b.last) [
    | inl lt ↦ (let h = y.has_last in (h.0, Contains-append_right xs ys h.0 h.1, h.2 ∙ omega (arith, high, lt)))
    | inr le ↦ (let h = x.has_last in (h.0, Contains-append_left xs ys h.0 h.1, h.2 ∙ omega (arith, high, le)))
  ];
  between = λ e h. elim (Contains-append_cases xs ys e h) [
    | inl left ↦ (let within = x.between e left in (omega (arith, low, within.0), omega (arith, high, within.1)))
    | inr right ↦ (let within = y.between e right in (omega (arith, low, within.0), omega (arith, high, within.1)))
  ];
}

-- ---- one segment more

module _ (events : List Event) (s : Content) (o : Outline) (fit : Fits s) (is : o ≡ outline_of s) where
  first_is : o.first ≡ first_sequence s.events
  first_is = ap (λ (p : Outline). p.first) is

  own_span : (o.first ≡ 0 → ⊥) → IsSpanOf s.events (from_to o.first o.last)
  own_span some = elim (none_or_some s fit) [
    | inl none ↦ absurd (some (first_is ∙ none.first))
    | inr has ↦ subst (λ (p : Outline). IsSpanOf s.events (from_to p.first p.last)) (sym is) has.span
  ]

  -- after no events, a segment with events has the span from its first to its last sequence
  pub begun : (o.first ≡ 0 → ⊥) → events ≡ [] → IsSpanOf (events ++ s.events) (from_to o.first o.last)
  begun some none = subst (λ (es : List Event). IsSpanOf (es ++ s.events) (from_to o.first o.last)) (sym none) (own_span some)

  -- a segment with events widens the span of those before to the lesser first and the greater last sequence
  pub widened : (span : Span) (first last : ℕ) → (o.first ≡ 0 → ⊥) → first ≡ min span.first o.first → last ≡ max span.last o.last
      → IsSpanOf events span → IsSpanOf (events ++ s.events) (from_to first last)
  widened span first last some low high before = joined events s.events span (from_to o.first o.last) first last low high before (own_span some)

-- ---- at the place that a loop has come to

-- what a segment more makes of a span, whatever events came before
abbrev Widens : Outline → Option Span → Option Span → Type 0
Widens o old new = (events : List Event) (s : Content) → Fits s → o ≡ outline_of s → IsSpan events old → IsSpan (events ++ s.events) new

-- the span of the events so far, widened by the segment at the next place, is that of one segment more
pub span_more : (ss : List Content) (i : ℕ) (s : Content) (o : Outline) (old new : Option Span) → i < length ss → s ≡ get_or ss i s → Fits s
    → o ≡ outline_of s → Widens o old new → IsSpan (all_events (take i ss)) old → IsSpan (all_events (take (i + 1) ss)) new
span_more ss i s o old new lt is fit outlined widens so_far =
    subst (λ (es : List Event). IsSpan es new) (sym (all_events-more ss i s lt is)) (widens (all_events (take i ss)) s fit outlined so_far)

-- the same with the segment behind an outline
pub span_more_behind : (outlines : List Outline) (ss : List Content) (i : ℕ) (o d : Outline) (old new : Option Span) → AllByRecursion Fits ss
    → outlines ≡ map outline_of ss → i < length outlines → o ≡ get_or outlines i d → Widens o old new
    → IsSpan (all_events (take i ss)) old → IsSpan (all_events (take (i + 1) ss)) new
span_more_behind outlines ss i o d old new fit are lt is widens so_far =
    let at = behind ss i o d (rw are at lt) (rw are at is) in
    span_more ss i at.segment o old new at.within at.here (fits_at ss ss i at.segment refl fit at.within at.here)
    at.outlined widens so_far
