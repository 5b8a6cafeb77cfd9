-- Up to a moment to which no segment of a case is missing, its events are those of the trace.
use Rattle.std.proofs.Common.{◌≡◌, ℕ, zero, suc, ◌+◌, ◌<◌, ltb, eqb, max, List, [], ◌∷◌, ◌++◌}
use Rattle.std.proofs.Common.{refl, sym, ap, ◌∙◌, subst, inl, inr, ◌⊎◌, arith, eqb-true, ltb-true}
use Rattle.std.specs.Prelude.{Contains, flat_map, nat_le}
use Rattle.std.proofs.lemmas.Bool.{and_parts, cases_eq, cases_lt, lt-leb}
use Rattle.htl_event.specs.Events.{Event}
use Rattle.htl_event.specs.Handles.{IsGreatestSequence}
use Rattle.htl_event.specs.Moments.{events_until}
use Rattle.htl_event.proofs.Members.{at_member, Contains-here, Contains-there, Contains-cases, Contains-nil, filter-skip}
use Rattle.htl_segment.specs.Content.{Content, Fits}
use Rattle.htl_segment.specs.Keys.{run_below}
use Rattle.htl_segment.specs.Traces.{Trace, AreInOrder, IsBefore, HasKey, all_events, events_of}
use Rattle.htl_segment.proofs.Greatest.{greatest_joined, greatest_none}
use Rattle.htl_segment.proofs.Spans.{above}
use Rattle.htl_segment.proofs.Traces.{members_agree}
use Rattle.htl_analyst.proofs.Held.{one_segment}
use Rattle.htl_case.specs.Answers.{IsAnswerOver}
use Rattle.htl_case.specs.Complete.{IsFirstMissing}
use Rattle.htl_case.specs.Faults.{key_of}
use Rattle.htl_case.specs.Final.{IsFinalAt, AnswersAreFinal}
use Rattle.htl_case.proofs.KeyOrder.{before_before, in_order_differ, not_itself}
use Rattle.htl_case.proofs.Moved.{filter_flat}

-- ---- the first number that is missing

-- a segment of the list has the key
abbrev Has : List Content → ℕ → ℕ → Type 0
Has ss p n = (s : Content) × Contains ss s × (s.processor ≡ p) × (s.number ≡ n)

has_or_not : (p n : ℕ) (ss : List Content) → Has ss p n ⊎ (Has ss p n → ⊥)
has_or_not p n [] = inr (λ h. Contains-nil h.0 h.1)
has_or_not p n (s ∷ ss) =
    elim (has_or_not p n ss) [
      | inl there ↦ inl (there.0, Contains-there s ss there.0 there.1, there.2, there.3)
      | inr none ↦ elim (cases_eq s.processor p) [
        | inl same ↦ elim (cases_eq s.number n) [
          | inl equal ↦ inl (s, Contains-here s ss, same, equal)
          | inr differ ↦ inr (λ h. elim (Contains-cases s ss h.0 h.1) [
            | inl is ↦ differ (ap (λ (x : Content). x.number) is ∙ h.3)
            | inr there ↦ none (h.0, there, h.2, h.3)
          ])
        ]
        | inr differ ↦ inr (λ h. elim (Contains-cases s ss h.0 h.1) [
          | inl is ↦ differ (ap (λ (x : Content). x.processor) is ∙ h.2)
          | inr there ↦ none (h.0, there, h.2, h.3)
        ])
      ]
    ]

-- all numbers below this one are there, or one of them is the first that is missing
first_below : (C : Trace) (p n : ℕ) → ((m : ℕ) → m < n → HasKey C p m) ⊎ ((first : ℕ) × (first < n) × IsFirstMissing C p first)
first_below C p zero = inl (λ m lt. absurd (omega (arith, lt)))
first_below C p (suc n) =
    elim (first_below C p n) [
      | inr some ↦ (let lt = some.1 in inr (some.0, omega (arith, lt), some.2))
      | inl all ↦ elim (has_or_not p n C.segments) [
        | inl key ↦ inl (λ m lt. elim (cases_lt m n) [
          | inl below ↦ all m below
          | inr from ↦ (let same : n ≡ m = omega (arith, lt, from) in subst (λ (k : ℕ). HasKey C p k) same key)
        ])
        | inr none ↦ inr (n, omega arith, record { below = all; missing = none })
      ]
    ]

-- ---- the greatest sequence

-- the greatest sequence of one event is its own
pub greatest_one : (e : Event) → IsGreatestSequence (Contains (e ∷ [])) e.sequence
greatest_one e = record {
  bound = λ x h. elim (Contains-cases e [] x h) [
    | inl is ↦ (let same : e.sequence ≡ x.sequence = ap (λ (y : Event). y.sequence) is in omega (arith, same))
    | inr there ↦ absurd (Contains-nil x there)
  ];
  reached = inr (e, Contains-here e [], refl);
}

some_greatest : (es : List Event) → (n : ℕ) × IsGreatestSequence (Contains es) n
some_greatest [] = (0, greatest_none)
some_greatest (e ∷ es) =
    let rest = some_greatest es in
    (max e.sequence rest.0, greatest_joined (e ∷ []) es (max e.sequence rest.0) e.sequence rest.0 refl (greatest_one e) rest.1)

-- ---- lists of segments in order, of which the longer one has only empty ones more

module _ (f : Content → List Event) where
  same_kept : (cs ts : List Content) → AreInOrder cs → AreInOrder ts → ((s : Content) → Contains cs s → Contains ts s)
      → ((s : Content) → Contains ts s → Contains cs s ⊎ (f s ≡ [])) → flat_map f cs ≡ flat_map f ts
  same_kept [] [] oc ot into from = refl
  same_kept (c ∷ cs) [] oc ot into from = absurd (Contains-nil c (into c (Contains-here c cs)))
  same_kept [] (t ∷ ts) oc ot into from =
      elim (from t (Contains-here t ts)) [
        | inl there ↦ absurd (Contains-nil t there)
        | inr none ↦ same_kept [] ts oc ot.1 (λ s h. absurd (Contains-nil s h)) (λ s h. from s (Contains-there t ts s h))
            ∙ sym (ap (λ (es : List Event). es ++ flat_map f ts) none)
      ]
  same_kept (c ∷ cs) (t ∷ ts) oc ot into from =
      elim (Contains-cases t ts c (into c (Contains-here c cs))) [
        | inl same ↦ ap (λ (s : Content). f s ++ flat_map f cs) (sym same) ∙ ap (λ (es : List Event). f t ++ es)
            (same_kept cs ts oc.1 ot.1 (λ s h. elim (Contains-cases t ts s (into s (Contains-there c cs s h))) [
              | inl is ↦ absurd (in_order_differ c cs oc s h (sym same ∙ is))
              | inr there ↦ there
            ]) (λ s h. elim (from s (Contains-there t ts s h)) [
              | inl there ↦ elim (Contains-cases c cs s there) [
                | inl is ↦ absurd (in_order_differ t ts ot s h (same ∙ is))
                | inr more ↦ inl more
              ]
              | inr none ↦ inr none
            ]))
        | inr behind ↦
            let new : Contains (c ∷ cs) t → ⊥ = λ h. elim (Contains-cases c cs t h) [
              | inl is ↦ in_order_differ t ts ot c behind (sym is)
              | inr there ↦ not_itself (key_of t) (before_before (key_of t) (key_of c) (key_of t)
                  (at_member (IsBefore t) ts c ot.0 behind) (at_member (IsBefore c) cs t oc.0 there))
            ] in
            elim (from t (Contains-here t ts)) [
              | inl there ↦ absurd (new there)
              | inr none ↦ same_kept (c ∷ cs) ts oc ot.1 (λ s h. elim (Contains-cases t ts s (into s h)) [
                | inl is ↦ absurd (new (subst (λ (x : Content). Contains (c ∷ cs) x) (sym is) h))
                | inr there ↦ there
              ]) (λ s h. from s (Contains-there t ts s h)) ∙ sym (ap (λ (es : List Event). es ++ flat_map f ts) none)
            ]
      ]

-- ---- a segment of the trace is the case's, or comes later

none_until : (moment : ℕ) (es : List Event) → ((e : Event) → Contains es e → moment < e.sequence) → events_until moment es ≡ []
none_until moment [] later = refl
none_until moment (e ∷ es) later =
    filter-skip (λ (x : Event). nat_le x.sequence moment) e es (lt-leb e.sequence moment (later e (Contains-here e es)))
    ∙ none_until moment es (λ x h. later x (Contains-there e es x h))

module _ (T C : Trace) (moment : ℕ) (final : IsFinalAt T C moment) where
  module _ (t : Content) (here : Contains T.segments t) where
    fits : Fits t
    fits = at_member Fits T.segments t final.trace.trace.fit here

    within : t.processor < C.processors
    within =
        let own = fits.processor in
        let count = (at_member (λ (s : Content). (s.trace_id ≡ T.id) × (s.processors ≡ T.processors)) T.segments t
        final.trace.trace.same here).1 in
        let same = final.part.processors in
        omega (arith, own, count, same)

    -- where a segment before it is missing, its events come after the moment
    comes_later : (first : ℕ) → first < t.number + 1 → IsFirstMissing C t.processor first → (e : Event) → Contains t.events e
        → moment < e.sequence
    comes_later first low missing e in_t =
        let greatest = some_greatest (events_of (run_below t.processor first) C.segments) in
        let bound = final.complete.bound t.processor greatest.0 within (first, missing, greatest.1) in
        let reached = final.reached in
        elim (greatest.1).reached [
          | inl none ↦ (let up = above t.version 0 t.events fits.events e in_t in omega (arith, reached, bound, none, up))
          | inr some ↦
              let from = (members_agree (run_below t.processor first) C.segments some.0).0 some.1 in
              let key = and_parts (eqb (from.0).processor t.processor) (ltb (from.0).number first) from.2 in
              let number = ltb-true (from.0).number first key.1 in
              let lower : (from.0).number < t.number = omega (arith, low, number) in
              let rises = final.trace.rising t from.0 here (final.part.segments from.0 from.1)
              (eqb-true (from.0).processor t.processor key.0) lower e some.0 in_t from.3 in
              let is = some.2 in
              omega (arith, reached, bound, is, rises)
        ]

    there_or_empty : Contains C.segments t ⊎ (events_until moment t.events ≡ [])
    there_or_empty =
        elim (first_below C t.processor (t.number + 1)) [
          | inl all ↦
              let key = all t.number (omega arith) in
              let same = one_segment T.segments final.trace.trace.in_order key.0 t (final.part.segments key.0 key.1) here key.2 key.3 in
              inl (subst (λ (s : Content). Contains C.segments s) same key.1)
          | inr some ↦ inr (none_until moment t.events (comes_later some.0 some.1 some.2))
        ]

  events_are_final : events_until moment (all_events C.segments) ≡ events_until moment (all_events T.segments)
  events_are_final =
      let test = λ (e : Event). nat_le e.sequence moment in
      let events = λ (s : Content). s.events in
      filter_flat events test C.segments
      ∙ same_kept (λ (s : Content). events_until moment s.events) C.segments T.segments final.is_case.trace.in_order
      final.trace.trace.in_order final.part.segments there_or_empty
      ∙ sym (filter_flat events test T.segments)

-- an answer as of a moment up to which no segment is missing is that over the whole trace
pub answers_are_final : AnswersAreFinal
answers_are_final = record {
  events = events_are_final;
  answers = λ T C moment final question answer.
      let same = events_are_final T C moment final in (
        subst (λ (es : List Event). IsAnswerOver es question answer) same,
        subst (λ (es : List Event). IsAnswerOver es question answer) (sym same),
      );
}
