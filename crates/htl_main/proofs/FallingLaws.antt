-- Beside held segments that rise, the nearest ones with events tell which segment falls first once another one is taken.
use Rattle.std.proofs.Common.{◌≡◌, ◌≢◌, ℕ, zero, suc, ◌+◌, ◌-◌, ◌<◌, ◌≤◌, Bool, true, false, List, [], ◌∷◌, length, map, get_or, take, drop}
use Rattle.std.proofs.Common.{max, reverse, Option, Some, None, refl, sym, ap, ◌∙◌, subst, inl, inr, ◌⊎◌, arith}
use Rattle.std.proofs.Common.{leb, leb-true, leb-false, ltb, ltb-true, ltb-false}
use Rattle.std.specs.Bool.{then_some}
use Rattle.std.specs.Prelude.{Contains, MatchOption}
use Rattle.std.specs.List.{AllWithin, HoldsAt}
use Rattle.std.specs.List.Sorted.{IsNonDecreasingBy, IsPartitionPoint}
use Rattle.std.proofs.lemmas.Bool.{cases_Bool, cases_eq, cases_lt}
use Rattle.std.proofs.lemmas.List.{get_or_default, get_or_read, get_or-drop, get_or-reverse, get_or-take, length-drop, length-reverse}
use Rattle.std.proofs.lemmas.List.{length-take, take-append-drop}
use Rattle.std.proofs.lemmas.List.Elements.{Contains-append_cases, Contains-append_left, Contains-append_right}
use Rattle.std.proofs.lemmas.List.Sorted.{IsNonDecreasingBy-drop, IsNonDecreasingBy-take}
use Rattle.htl_event.specs.Events.{Event}
use Rattle.htl_event.specs.Handles.{IsGreatestSequence}
use Rattle.htl_event.specs.Members.{IsLeastSuch}
use Rattle.htl_event.proofs.Members.{Contains-map, Contains-nil, at_member}
use Rattle.htl_segment.specs.Content.{Content, Fits}
use Rattle.htl_segment.specs.Outlines.{first_sequence, last_sequence}
use Rattle.htl_segment.proofs.Spans.{above}
use Rattle.htl_taken.specs.Rising.{Rises}
use Rattle.htl_taken.specs.Numbers.{front_at}
use Rattle.htl_taken.specs.declared.TheConstants.{MAX_FRONT}
use Rattle.htl_taken.proofs.Rising.{Rises-member}
use Rattle.htl_analyst.specs.Keys.{HasTaken, keys}
use Rattle.htl_analyst.specs.Right.{IsOwned, IsState}
use Rattle.htl_analyst.specs.States.{Part, State, folded_at, held_at, no_part}
use Rattle.htl_analyst.proofs.Held.{number, one_held}
use Rattle.htl_analyst.proofs.KeyEvents.{keys_taken}
use Rattle.htl_case.specs.Spans.{IsSpanOf}
use Rattle.htl_case.proofs.SegmentSpans.{from_to, none_or_some}
use Rattle.htl_main.specs.Folders.{AreHeld, FallsAmong, FallsIn, HasWithin, IsEventOf, IsFirstToFall, IsLeastIfAny, IsNearest, IsNewTo, IsSplitAt}
use Rattle.htl_main.specs.Folding.{Fall}

abbrev IsEmpty : Content → Type 0
IsEmpty s = s.events ≡ []

-- ---- the nearest segment with events

module _ (ss : List Content) (order : IsNonDecreasingBy (λ s. s.number) ss) where
  first_nearest : (x : Content) (i : ℕ) → x.events ≢ [] → i < length ss → HoldsAt (λ y. y ≡ x) ss i → AllWithin IsEmpty ss 0 i
      → IsNearest ◌≤◌ ss x
  first_nearest x i some lt at before = record {
    here = (i, lt, at x);
    some = some;
    nearest = λ t has full.
        elim (cases_lt has.0 i) [
          | inl early ↦ absurd (full (subst IsEmpty has.2 (before has.0 t (omega arith) early)))
          | inr late ↦
              let up = order i has.0 t late has.1 in
              let from = ap number (at t) in
              let to = ap number has.2 in
              omega (arith, up, from, to)
        ];
  }

  -- the first segment with events that a search finds has the least number of those with events
  pub nearest_first : {A : Type 0} (v : A → Content) (r : Option A)
      → MatchOption r (AllWithin IsEmpty ss 0 (length ss))
      (λ x. ((v x).events ≢ []) × (i : ℕ) × (i < length ss) × HoldsAt (λ y. y ≡ v x) ss i × AllWithin IsEmpty ss 0 i)
      → MatchOption r ((s : Content) → Contains ss s → IsEmpty s) (λ x. IsNearest ◌≤◌ ss (v x))
  nearest_first v None found = λ s has. subst IsEmpty has.2 (found has.0 s (omega arith) has.1)
  nearest_first v (Some x) found = first_nearest (v x) found.1 found.0 found.2 found.3 found.4

  -- the segment at a place, counted from the end
  from_end : (k : ℕ) (t : Content) → k < length ss → get_or (reverse ss) (length ss - 1 - k) t ≡ get_or ss k t
  from_end k t lt =
      let back : length ss - 1 - (length ss - 1 - k) ≡ k = omega (arith, lt) in
      get_or-reverse ss (length ss - 1 - k) t (omega (arith, lt)) ∙ ap (λ (j : ℕ). get_or ss j t) back

  last_nearest : (x : Content) (i : ℕ) → x.events ≢ [] → i < length ss → HoldsAt (λ y. y ≡ x) (reverse ss) i
      → AllWithin IsEmpty (reverse ss) 0 i → IsNearest (λ own other. other ≤ own) ss x
  last_nearest x i some lt at after = record {
    here = (length ss - 1 - i, omega (arith, lt), sym (get_or-reverse ss i x lt) ∙ at x);
    some = some;
    nearest = λ t has full.
        let k = length ss - 1 - has.0 in
        let within = has.1 in
        let is_t : get_or (reverse ss) k t ≡ t = from_end has.0 t has.1 ∙ has.2 in
        elim (cases_lt k i) [
          | inl late ↦ absurd (full (subst IsEmpty is_t (after k t (omega arith) late)))
          | inr early ↦
              let up = order has.0 (length ss - 1 - i) t (omega (arith, early, lt, within)) (omega (arith, lt)) in
              let from = ap number (sym (get_or-reverse ss i t lt) ∙ at t) in
              let to = ap number has.2 in
              omega (arith, up, from, to)
        ];
  }

  -- the first that a search from the end finds has the greatest number of those with events
  pub nearest_last : {A : Type 0} (v : A → Content) (r : Option A)
      → MatchOption r (AllWithin IsEmpty (reverse ss) 0 (length (reverse ss)))
      (λ x. ((v x).events ≢ []) × (i : ℕ) × (i < length (reverse ss)) × HoldsAt (λ y. y ≡ v x) (reverse ss) i × AllWithin IsEmpty (reverse ss) 0 i)
      → MatchOption r ((s : Content) → Contains ss s → IsEmpty s) (λ x. IsNearest (λ own other. other ≤ own) ss (v x))
  nearest_last v None found = λ s has.
      (let within = has.1 in
      let long = length-reverse ss in
      subst IsEmpty (from_end has.0 s has.1 ∙ has.2) (found (length ss - 1 - has.0) s (omega arith) (omega (arith, within, long))))
  nearest_last v (Some x) found =
      (let lt = found.2 in let long = length-reverse ss in
      last_nearest (v x) found.1 found.0 (omega (arith, lt, long)) found.3 found.4)

-- ---- those below a number, and the others

part_held : (p : ℕ) (held part : List Content) → ((h : Content) → Contains part h → Contains held h)
    → IsNonDecreasingBy (λ h. h.number) part → AreHeld p held → AreHeld p part
part_held p held part within order are = record {
  own = λ h has. are.own h (within h has);
  order = order;
  one = λ h k in_h in_k. are.one h k (within h in_h) (within k in_k);
  rising = λ h k in_h in_k. are.rising h k (within h in_h) (within k in_k);
}

-- what a search by halves cuts off are the segments below the number
pub split_is : (p n len : ℕ) (held : List Content) → len ≤ length held
    → IsPartitionPoint (λ h. ltb h.number n ≡ true) (λ h. ltb h.number n ≡ false) held len → AreHeld p held
    → IsSplitAt p n held (take len held) (drop len held)
split_is p n len held within point are =
    let parts = take-append-drop len held in
    record {
      parts = parts;
      below = λ h has.
          (let short = has.1 in
          let long = length-take len held in
          let room : has.0 < len = omega (arith, short, long) in
          let low = ltb-true (get_or held has.0 h).number n (point.0 has.0 h (omega arith) room) in
          let same = ap number (sym (get_or-take len held has.0 h room) ∙ has.2) in
          omega (arith, low, same));
      above = λ h has.
          (let short = has.1 in
          let long = length-drop len held in
          let high = ltb-false (get_or held (len + has.0) h).number n (point.1 (len + has.0) h (omega arith) (omega (arith, short, long))) in
          let same = ap number (sym (get_or-drop len held has.0 h) ∙ has.2) in
          omega (arith, high, same));
      lower_are = part_held p held (take len held)
          (λ h has. subst (λ (hs : List Content). Contains hs h) parts (Contains-append_left (take len held) (drop len held) h has))
          (IsNonDecreasingBy-take (λ h. h.number) len held are.order) are;
      higher_are = part_held p held (drop len held)
          (λ h has. subst (λ (hs : List Content). Contains hs h) parts (Contains-append_right (take len held) (drop len held) h has))
          (IsNonDecreasingBy-drop (λ h. h.number) len held are.order) are;
    }

-- ---- what the nearest ones tell

not_empty : (s : Content) (e : Event) → Contains s.events e → s.events ≢ []
not_empty s e has none = Contains-nil e (subst (λ (es : List Event). Contains es e) none has)

span_of : (s : Content) → Fits s → s.events ≢ [] → IsSpanOf s.events (from_to (first_sequence s.events) (last_sequence 0 s.events))
span_of s fits some =
    elim (none_or_some s fits) [
      | inl none ↦ absurd (some (none.none))
      | inr found ↦ found.span
    ]

module _ (p : ℕ) (ss : List Content) (are : AreHeld p ss) where
  -- an event of a lower segment is below each of a higher one
  below_higher : (h k : Content) (e f : Event) → Contains ss h → Contains ss k → h.number < k.number → Contains h.events e
      → Contains k.events f → e.sequence < f.sequence
  below_higher h k e f in_h in_k lower in_e in_f =
      elim (cases_lt e.sequence f.sequence) [
        | inl lt ↦ lt
        | inr le ↦ absurd (are.rising h k in_h in_k (record {
          processor = (are.own h in_h).1 ∙ sym (are.own k in_k).1;
          number = lower;
          event = f;
          earlier = e;
          has_event = in_f;
          has_earlier = in_e;
          falling = le;
        }))
      ]

  -- the last sequence of the last segment with events is the greatest of all
  pub greatest_of_last : (x : Content) (n : ℕ) → IsNearest (λ own other. other ≤ own) ss x → n ≡ last_sequence 0 x.events
      → IsGreatestSequence (IsEventOf ss) n
  greatest_of_last x n nearest is =
      let span = span_of x (are.own x nearest.here).0 nearest.some in
      let last = span.has_last in
      let reached = last.2 in
      record {
        bound = λ e from.
            (let up = nearest.nearest from.0 from.1 (not_empty from.0 e from.2) in
            elim (cases_eq (from.0).number x.number) [
              | inl same ↦
                  let one = are.one from.0 x from.1 nearest.here same in
                  let le = (span.between e (subst (λ (y : Content). Contains y.events e) one from.2)).1 in
                  omega (arith, le, is)
              | inr other ↦
                  let lt = below_higher from.0 x e last.0 from.1 nearest.here (omega (arith, up, other)) from.2 last.1 in
                  omega (arith, lt, reached, is)
            ]);
        reached = inr (last.0, (x, nearest.here, last.1), last.2 ∙ sym is);
      }

  -- without events there is none above 0
  pub greatest_of_none : ((s : Content) → Contains ss s → IsEmpty s) → IsGreatestSequence (IsEventOf ss) 0
  greatest_of_none empty = record {
    bound = λ e from. absurd (not_empty from.0 e from.2 (empty from.0 from.1));
    reached = inl refl;
  }

  -- where the first segment with events is above a sequence, all are
  pub none_within : (x : Content) (first sequence : ℕ) → IsNearest ◌≤◌ ss x → first ≡ first_sequence x.events → sequence < first
      → (n : ℕ) → HasWithin ss sequence n → ⊥
  none_within x first sequence nearest is above n from =
      let span = span_of x (are.own x nearest.here).0 nearest.some in
      let up = nearest.nearest from.0 from.1 (not_empty from.0 from.3 from.4) in
      let low = from.5 in
      let least = span.has_first.2 in
      elim (cases_eq x.number (from.0).number) [
        | inl same ↦
            let one = are.one from.0 x from.1 nearest.here (sym same) in
            let le = (span.between from.3 (subst (λ (y : Content). Contains y.events from.3) one from.4)).0 in
            omega (arith, le, is, low, above)
        | inr other ↦
            let lt = below_higher x from.0 span.has_first.0 from.3 nearest.here from.1 (omega (arith, up, other)) span.has_first.1 from.4 in
            omega (arith, lt, least, is, low, above)
      ]

  -- and where it isn't, it is the first with an event at or below that sequence
  pub least_within : (x : Content) (first sequence : ℕ) → IsNearest ◌≤◌ ss x → first ≡ first_sequence x.events → first ≤ sequence
      → IsLeastSuch ◌<◌ (HasWithin ss sequence) x.number
  least_within x first sequence nearest is within =
      let span = span_of x (are.own x nearest.here).0 nearest.some in
      let least = span.has_first.2 in
      record {
        holds = (x, nearest.here, refl, span.has_first.0, span.has_first.1, omega (arith, least, is, within));
        least = λ n lower from.
            (let up = nearest.nearest from.0 from.1 (not_empty from.0 from.3 from.4) in
            let same = from.2 in
            omega (arith, lower, up, same));
      }

  -- so the test of that one segment tells
  pub within_by_test : (x : Content) (first sequence : ℕ) (test : Bool) → IsNearest ◌≤◌ ss x → first ≡ first_sequence x.events
      → leb first sequence ≡ test → IsLeastIfAny (HasWithin ss sequence) (then_some test x.number)
  within_by_test x first sequence true nearest is low = least_within x first sequence nearest is (leb-true first sequence low)
  within_by_test x first sequence false nearest is high = none_within x first sequence nearest is (leb-false first sequence high)

-- where no segment has events, none has one at or below a sequence
pub empty_within : (ss : List Content) (sequence : ℕ) → ((s : Content) → Contains ss s → IsEmpty s) → (n : ℕ) → HasWithin ss sequence n → ⊥
empty_within ss sequence empty n from = not_empty from.0 from.3 from.4 (empty from.0 from.1)

-- a segment with a first sequence has events
pub some_events : (s : Content) → (first_sequence s.events ≡ 0 → ⊥) → s.events ≢ []
some_events s some none = some (ap first_sequence none)

-- ---- what a new segment makes fall

-- one relation in place of another that says the same
pub least_same : (P Q : ℕ → Type 0) → ((n : ℕ) → P n → Q n) → ((n : ℕ) → Q n → P n) → (r : Option ℕ) → IsLeastIfAny P r → IsLeastIfAny Q r
least_same P Q to from None is = λ n q. is n (from n q)
least_same P Q to from (Some n) is = record { holds = to n is.holds; least = λ m lt q. is.least m lt (from m q) }

module _ (held : List Content) (floor : ℕ) (s : Content) where
  module _ (fits : Fits s) (are : AreHeld s.processor held) (new : (h : Content) → Contains held h → h.number ≢ s.number)
      (some : s.events ≢ []) where
    span : IsSpanOf s.events (from_to (first_sequence s.events) (last_sequence 0 s.events))
    span = span_of s fits some

    -- the new segment falls, so it is the first to fall
    least_self : FallsAmong held floor s s.number → IsLeastSuch ◌<◌ (FallsAmong held floor s) s.number
    least_self holds = record { holds = holds; least = above }
      where
        above : (n : ℕ) → n < s.number → FallsAmong held floor s n → ⊥
        above n lower (inl self) = (let same = self.0 in omega (arith, lower, same))
        above n lower (inr falls) = elim falls.2 [
          | inl low ↦ (let same = low.1 in omega (arith, lower, same))
          | inr high ↦ (let same = high.1 in let up = (high.0).number in omega (arith, lower, same, up))
        ]

    module _ (lower higher : List Content) (split : IsSplitAt s.processor s.number held lower higher) (last : ℕ)
        (greatest : IsGreatestSequence (IsEventOf lower) last) where
      low_held : (h : Content) → Contains lower h → Contains held h
      low_held h has = subst (λ (hs : List Content). Contains hs h) split.parts (Contains-append_left lower higher h has)

      high_held : (h : Content) → Contains higher h → Contains held h
      high_held h has = subst (λ (hs : List Content). Contains hs h) split.parts (Contains-append_right lower higher h has)

      held_cases : (h : Content) → Contains held h → Contains lower h ⊎ Contains higher h
      held_cases h has = Contains-append_cases lower higher h (subst (λ (hs : List Content). Contains hs h) (sym split.parts) has)

      above_0 : 0 < (span.has_first.0).sequence
      above_0 = above s.version 0 s.events fits.events span.has_first.0 span.has_first.1

      within_lower : first_sequence s.events ≤ last → FallsAmong held floor s s.number
      within_lower low =
          let is = span.has_first.2 in
          elim greatest.reached [
            | inl none ↦ absurd (let up = above_0 in omega (arith, up, is, low, none))
            | inr found ↦
                let from = found.1 in
                let at = found.2 in
                inr (
                  from.0,
                  low_held from.0 from.1,
                  inl (
                    record {
                      processor = (split.lower_are.own from.0 from.1).1;
                      number = split.below from.0 from.1;
                      event = span.has_first.0;
                      earlier = found.0;
                      has_event = span.has_first.1;
                      has_earlier = from.2;
                      falling = omega (arith, is, low, at);
                    },
                    refl,
                  ),
                )
          ]

      -- a first sequence at or below the floor or the greatest one below makes the new segment fall
      pub first_is_self : first_sequence s.events ≤ max floor last → IsLeastSuch ◌<◌ (FallsAmong held floor s) s.number
      first_is_self low =
          elim (cases_lt floor (first_sequence s.events)) [
            | inl over ↦ least_self (within_lower (omega (arith, low, over)))
            | inr under ↦
                let is = span.has_first.2 in
                least_self (inl (refl, span.has_first.0, span.has_first.1, omega (arith, is, under)))
          ]

      -- else only segments above it fall
      module _ (over : max floor last < first_sequence s.events) where
        falls_within : (n : ℕ) → FallsAmong held floor s n → HasWithin higher (last_sequence 0 s.events) n
        falls_within n (inl self) =
            (let low = self.3 in let up = (span.between self.1 self.2).0 in absurd (omega (arith, low, up, over)))
        falls_within n (inr falls) =
            let h = falls.0 in
            elim falls.2 [
              | inl low ↦
                  let fall = low.0 in
                  let behind = fall.number in
                  elim (held_cases h falls.1) [
                    | inl in_lower ↦
                        let le = greatest.bound fall.earlier (h, in_lower, fall.has_earlier) in
                        let up = (span.between fall.event fall.has_event).0 in
                        let falling = fall.falling in
                        absurd (omega (arith, le, up, falling, over))
                    | inr in_higher ↦ (let above = split.above h in_higher in absurd (omega (arith, behind, above)))
                  ]
              | inr high ↦
                  let fall = high.0 in
                  let ahead = fall.number in
                  elim (held_cases h falls.1) [
                    | inl in_lower ↦ (let below = split.below h in_lower in absurd (omega (arith, below, ahead)))
                    | inr in_higher ↦
                        let up = (span.between fall.earlier fall.has_earlier).1 in
                        let falling = fall.falling in
                        (h, in_higher, sym high.1, fall.event, fall.has_event, omega (arith, up, falling))
                  ]
            ]

        within_falls : (n : ℕ) → HasWithin higher (last_sequence 0 s.events) n → FallsAmong held floor s n
        within_falls n from =
            let h = from.0 in
            let there = high_held h from.1 in
            let le = split.above h from.1 in
            let other = new h there in
            let low = from.5 in
            let is = span.has_last.2 in
            inr (
              h,
              there,
              inr (
                record {
                  processor = sym (are.own h there).1;
                  number = omega (arith, le, other);
                  event = from.3;
                  earlier = span.has_last.0;
                  has_event = from.4;
                  has_earlier = span.has_last.1;
                  falling = omega (arith, low, is);
                },
                sym from.2,
              ),
            )

        -- and the first to fall is the first of those with an event at or below its last sequence
        pub first_is_within : (r : Option ℕ) → IsLeastIfAny (HasWithin higher (last_sequence 0 s.events)) r
            → IsLeastIfAny (FallsAmong held floor s) r
        first_is_within r is = least_same (HasWithin higher (last_sequence 0 s.events)) (FallsAmong held floor s) within_falls falls_within r is

-- ---- what an analyst holds

in_order : (low high : ℕ) (hs : List Content) → Rises low high (map number hs) → IsNonDecreasingBy (λ h. h.number) hs
in_order low high [] rises i j d le lt = absurd (omega (arith, lt))
in_order low high (x ∷ xs) rises zero zero d le lt = omega arith
in_order low high (x ∷ xs) rises zero (suc j) d le lt =
    let there : Contains (map number xs) (get_or xs j d).number =
    Contains-map number xs (get_or xs j d) (j, omega (arith, lt), get_or_default xs j (get_or xs j d) d (omega (arith, lt))) in
    let up = (Rises-member (x.number + 1) high (map number xs) (get_or xs j d).number rises.1 there).0 in
    omega (arith, up)
in_order low high (x ∷ xs) rises (suc i) zero d le lt = absurd (omega (arith, le))
in_order low high (x ∷ xs) rises (suc i) (suc j) d le lt = in_order (x.number + 1) high xs rises.1 i j d (omega (arith, le)) (omega (arith, lt))

module _ (a : State) (p : ℕ) (is : IsState a) (within : p < a.processors) where
  -- the held segments of a processor are in order, where none falls
  pub are_held : ((h k : Content) → Contains (held_at a.parts p) h → Contains (held_at a.parts p) k → Fall h k → ⊥)
      → AreHeld p (held_at a.parts p)
  are_held rising =
      let part = is.each p within in
      let held = held_at a.parts p in
      let rises : Rises (front_at a.taken p) MAX_FRONT (map number held) =
      subst (Rises (front_at a.taken p) MAX_FRONT) (sym part.numbers) part.proper.rises in
      record {
        own = λ h has.
            (let owned = at_member (IsOwned a.trace_id a.processors p) held h part.owned has in (owned.fits, owned.processor));
        order = in_order (front_at a.taken p) MAX_FRONT held rises;
        one = one_held (front_at a.taken p) MAX_FRONT held rises;
        rising = rising;
      }

  -- and none of them has the number of a new one
  pub held_new : (s : Content) → s.processor ≡ p → IsNewTo a s → (h : Content) → Contains (held_at a.parts p) h → h.number ≢ s.number
  held_new s same new h has is_s =
      let part = is.each p within in
      let there = subst (λ (ns : List ℕ). Contains ns h.number) part.numbers (Contains-map number (held_at a.parts p) h has) in
      let loose = subst (λ (n : ℕ). HasTaken a p n) is_s (inr there) in
      new.new (subst (λ (q : ℕ). HasTaken a q s.number) (sym same) loose)

by_result : (a : State) (s : Content) (r : Option ℕ) → IsNewTo a s → IsLeastIfAny (FallsIn a s) r → IsFirstToFall a s r
by_result a s None new least = λ again. least
by_result a s (Some n) new least = (new, least)

-- what is found beside what an analyst holds of the processor and has folded of it, where none falls, is the first to fall
pub first_in_state : (a : State) (s : Content) (k : Part) (held : List Content) (floor : ℕ) (r : Option ℕ) → IsState a → Fits s → IsNewTo a s
    → ((h k : Content) → Contains (held_at a.parts s.processor) h → Contains (held_at a.parts s.processor) k → Fall h k → ⊥)
    → k ≡ get_or a.parts s.processor k → held ≡ k.held → floor ≡ (folded_at a.parts s.processor).last_sequence
    → (AreHeld s.processor held → ((h : Content) → Contains held h → h.number ≢ s.number) → IsLeastIfAny (FallsAmong held floor s) r)
    → IsFirstToFall a s r
first_in_state a s k held floor r is fits new rising at held_is floor_is least =
    let p = s.processor in
    let own = fits.processor in
    let count = new.processors in
    let long = is.parts in
    let within : p < a.processors = omega (arith, own, count) in
    let there : held ≡ held_at a.parts p =
    held_is ∙ ap (λ (part : Part). part.held) (get_or_read a.parts p k (omega (arith, within, long)) at no_part) in
    let found = least (subst (AreHeld p) (sym there) (are_held a p is within rising))
    (subst (λ (hs : List Content). (h : Content) → Contains hs h → h.number ≢ s.number) (sym there) (held_new a p is within s refl new)) in
    by_result a s r new (rw (there, floor_is) at found)

-- a key that isn't taken is none of the state's
pub not_a_key : (a : State) (p n : ℕ) → (HasTaken a p n → ⊥) → keys a p n ≡ false
not_a_key a p n none = elim (cases_Bool (keys a p n)) [
  | inl is ↦ absurd (none (keys_taken a p n is))
  | inr not_so ↦ not_so
]
