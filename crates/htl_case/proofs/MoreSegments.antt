-- Where no sequence comes twice in the segments that the span of new ones meets, none comes twice among all.
use Rattle.std.proofs.Common.{◌≡◌, ℕ, ◌+◌, ◌<◌, ◌≤◌, true, List, [], ◌∷◌, ◌++◌, length, get_or, map, take, All}
use Rattle.std.proofs.Common.{Option, None, Some, sym, ap, ◌∙◌, subst, inl, inr, arith}
use Rattle.std.specs.Prelude.{Contains, ◌↔◌, nat_le, filter}
use Rattle.std.specs.List.{AllByRecursion}
use Rattle.std.proofs.lemmas.Bool.{and_from, cases_lt, le-leb}
use Rattle.std.proofs.lemmas.Grind.{flat_map-append}
use Rattle.std.proofs.lemmas.List.{map-append, take_more}
use Rattle.std.proofs.lemmas.List.Elements.{filter-append, recursion_from_All, Contains-append_cases, Contains-append_left}
use Rattle.htl_event.specs.Events.{Event}
use Rattle.htl_event.specs.Handles.{HaveOwnSequences}
use Rattle.htl_event.specs.declared.growth.Span.{Span}
use Rattle.htl_event.proofs.Members.{at_member, each_member, Contains-filter, Contains-flat_map, Contains-nil}
use Rattle.htl_segment.specs.Content.{Content, Fits}
use Rattle.htl_segment.specs.Outlines.{first_sequence, last_sequence}
use Rattle.htl_segment.specs.Repeated.{sequence_of, times}
use Rattle.htl_segment.specs.Traces.{AreInOrder, all_events}
use Rattle.htl_case.specs.Faults.{ComesTwice}
use Rattle.htl_case.specs.Outlined.{may_have}
use Rattle.htl_case.specs.Spans.{IsSpan}
use Rattle.htl_case.proofs.SegmentSpans.{none_or_some}
use Rattle.htl_case.proofs.Twice.{HasEventAt, two_segments, twice_counted, own_from_times, times_from_own}

-- ---- the sequences of those that may have events within the span

abbrev pub sequences_within : Option Span → List Content → List ℕ
sequences_within span ss = map sequence_of (all_events (filter (may_have span) ss))

-- those of one more segment come last
pub within_more : (span : Option Span) (ss : List Content) (i : ℕ) (s : Content) → i < length ss → s ≡ get_or ss i s
    → sequences_within span (take i ss) ++ sequences_within span (s ∷ []) ≡ sequences_within span (take (i + 1) ss)
within_more span ss i s lt is =
    let p = may_have span in
    let next : take (i + 1) ss ≡ take i ss ++ s ∷ [] = take_more ss i s lt ∙ ap (λ (x : Content). take i ss ++ x ∷ []) (sym is) in
    sym (map-append sequence_of (all_events (filter p (take i ss))) (all_events (filter p (s ∷ []))))
    ∙ sym (ap (map sequence_of) (flat_map-append (λ (t : Content). t.events) (filter p (take i ss)) (filter p (s ∷ []))))
    ∙ sym (ap (λ (ts : List Content). map sequence_of (all_events ts)) (ap (filter p) next ∙ filter-append p (take i ss) (s ∷ [])))

-- a segment that has an event of the sequence of an event with this span may have events within it
met : (span : Option Span) (events : List Event) (s : Content) (x : ℕ) → Fits s → IsSpan events span → HasEventAt events x
    → HasEventAt s.events x → may_have span s ≡ true
met None events s x fit is (e, h, at) own = absurd (Contains-nil e (subst (λ (es : List Event). Contains es e) is h))
met (Some span) events s x fit is (e, h, at) (f, k, same) =
    elim (none_or_some s fit) [
      | inl has ↦ absurd (Contains-nil f (subst (λ (es : List Event). Contains es f) has.none k))
      | inr has ↦
          let own = has.span.between f k in
          let of = is.between e h in
          and_from (nat_le (first_sequence s.events) span.last) (nat_le span.first (last_sequence 0 s.events))
          (le-leb (first_sequence s.events) span.last (omega (arith, own.0, of.1, at, same)))
          (le-leb span.first (last_sequence 0 s.events) (omega (arith, own.1, of.0, at, same)))
    ]

-- ---- all segments

-- the segments that are added to those of a case, and all in order
pub record AreGrown (more old ordered : List Content) (span : Option Span) : Type 0 where
  pub own : HaveOwnSequences (all_events old)
  pub fit : All Fits ordered
  pub in_order : AreInOrder ordered
  pub members : (s : Content) → Contains ordered s ↔ Contains (more ++ old) s
  pub is_span : IsSpan (all_events more) span
  pub once : (n : ℕ) → times n (sequences_within span ordered) ≤ 1

-- what is added fits, as all does
pub more_fit : (more old ordered : List Content) → All Fits ordered → ((s : Content) → Contains ordered s ↔ Contains (more ++ old) s)
    → AllByRecursion Fits more
more_fit more old ordered fit members = each_member Fits more (λ s h.
    at_member Fits ordered s (recursion_from_All Fits ordered fit) ((members s).1 (Contains-append_left more old s h)))

module _ (more old ordered : List Content) (span : Option Span) (grown : AreGrown more old ordered span) where
  -- two segments of which one is new have no event of one sequence
  none_new : (x : ℕ) (two : ComesTwice ordered x) → HasEventAt (all_events more) x → ⊥
  none_new x two new =
      let may : (s : Content) → Contains ordered s → HasEventAt s.events x → may_have span s ≡ true =
      λ s h own. met span (all_events more) s x (at_member Fits ordered s (recursion_from_All Fits ordered grown.fit) h) grown.is_span new own in
      let counted = twice_counted (filter (may_have span) ordered) x (record {
        one = two.one;
        other = two.other;
        has_one = Contains-filter (may_have span) ordered two.one two.has_one (may two.one two.has_one two.in_one);
        has_other = Contains-filter (may_have span) ordered two.other two.has_other (may two.other two.has_other two.in_other);
        differ = two.differ;
        in_one = two.in_one;
        in_other = two.in_other;
      }) in
      omega (arith, counted, grown.once x)

  in_new : (x : ℕ) (s : Content) → Contains more s → HasEventAt s.events x → HasEventAt (all_events more) x
  in_new x s h (e, k, is) = (e, Contains-flat_map (λ (t : Content). t.events) more s e h k, is)

  none_twice : (x : ℕ) → ComesTwice ordered x → ⊥
  none_twice x two =
      elim (Contains-append_cases more old two.one ((grown.members two.one).0 two.has_one)) [
        | inl one_new ↦ none_new x two (in_new x two.one one_new two.in_one)
        | inr one_old ↦ elim (Contains-append_cases more old two.other ((grown.members two.other).0 two.has_other)) [
          | inl other_new ↦ none_new x two (in_new x two.other other_new two.in_other)
          | inr other_old ↦
              let counted = twice_counted old x (record {
                one = two.one;
                other = two.other;
                has_one = one_old;
                has_other = other_old;
                differ = two.differ;
                in_one = two.in_one;
                in_other = two.in_other;
              }) in
              omega (arith, counted, times_from_own (all_events old) grown.own x)
        ]
      ]

  -- all events have sequences of their own
  pub grown_own : HaveOwnSequences (all_events ordered)
  grown_own = own_from_times (all_events ordered) (λ x. elim (cases_lt 1 (times x (map sequence_of (all_events ordered)))) [
    | inl lt ↦ absurd (none_twice x (two_segments ordered x grown.in_order (recursion_from_All Fits ordered grown.fit) (omega (arith, lt))))
    | inr le ↦ le
  ])
