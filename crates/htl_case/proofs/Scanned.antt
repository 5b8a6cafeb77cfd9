-- A loop over segments in order finds the first whose sequences fall, by the highest sequence of its processor so far.
use Rattle.std.proofs.Common.{◌≡◌, ℕ, ◌+◌, ◌<◌, ◌≤◌, Bool, eqb, cond, List, [], ◌∷◌, ◌++◌, length, get_or, take}
use Rattle.std.proofs.Common.{drop, map, max, zero, suc, All, refl, sym, ap, ◌∙◌, subst, inl, inr, ◌⊎◌, arith}
use Rattle.std.specs.Prelude.{Contains}
use Rattle.std.proofs.lemmas.Bool.{cases_lt, cases_Bool, eqb-true, eqb-false}
use Rattle.std.proofs.lemmas.List.{drop_more, take_more, take_all, take-append-drop, length-map}
use Rattle.std.proofs.lemmas.List.Elements.{Contains-push, Contains-push_cases, Contains-append_cases, Contains-append_left}
use Rattle.std.proofs.lemmas.List.Elements.{Contains-append_right}
use Rattle.htl_event.specs.Events.{Event}
use Rattle.htl_event.proofs.Members.{Contains-here, Contains-cases, Contains-nil, at_member}
use Rattle.htl_segment.specs.Content.{Content, Fits}
use Rattle.htl_segment.specs.Outlines.{outline_of, first_sequence, last_sequence}
use Rattle.htl_segment.specs.declared.outline.Outline.{Outline}
use Rattle.htl_segment.specs.Traces.{AreInOrder, IsBefore}
use Rattle.htl_segment.specs.Rising.{IsKeyBefore, SequencesRise}
use Rattle.htl_event.specs.Members.{IsLeastSuch}
use Rattle.htl_case.specs.Faults.{Falls, key_of}
use Rattle.htl_case.specs.Outlined.{outline_key}
use Rattle.htl_case.proofs.KeyOrder.{not_itself, before_before}
use Rattle.htl_case.specs.Spans.{IsSpanOf}
use Rattle.htl_case.proofs.SegmentSpans.{from_to, none_or_some}
use Rattle.htl_segment.proofs.Spans.{above}

-- a key that falls among some segments falls among more
pub falls_moved : (a b : List Content) (key : ℕ × ℕ) → ((s : Content) → Contains a s → Contains b s) → Falls a key → Falls b key
falls_moved a b key into falls = record {
  segment = falls.segment;
  lower = falls.lower;
  has_segment = into falls.segment falls.has_segment;
  has_lower = into falls.lower falls.has_lower;
  segment_key = falls.segment_key;
  same_processor = falls.same_processor;
  lower_number = falls.lower_number;
  event = falls.event;
  earlier = falls.earlier;
  has_event = falls.has_event;
  has_earlier = falls.has_earlier;
  falling = falls.falling;
}

-- where nothing falls, sequences rise
pub rise_from_none : (ss : List Content) → ((key : ℕ × ℕ) → Falls ss key → ⊥) → SequencesRise ss
rise_from_none ss none s t h k same lower e f in_s in_t =
    elim (cases_lt f.sequence e.sequence) [
      | inl lt ↦ lt
      | inr le ↦ absurd (none (key_of s) (record {
        segment = s;
        lower = t;
        has_segment = h;
        has_lower = k;
        segment_key = refl;
        same_processor = same;
        lower_number = lower;
        event = e;
        earlier = f;
        has_event = in_s;
        has_earlier = in_t;
        falling = le;
      }))
    ]

-- ---- a segment among those in order

-- the segments before it come before it, and those after it after
record IsAmong (seen : List Content) (s : Content) (left : List Content) : Type 0 where
  pub before : (t : Content) → Contains seen t → IsBefore t s
  pub after : (t : Content) → Contains left t → IsBefore s t

among : (seen : List Content) (s : Content) (left : List Content) → AreInOrder (seen ++ s ∷ left) → IsAmong seen s left
among [] s left ordered = record { before = λ t h. absurd (Contains-nil t h); after = λ t h. at_member (IsBefore s) left t ordered.0 h }
among (u ∷ seen) s left ordered =
    let rest = among seen s left ordered.1 in record {
      before = λ t h. elim (Contains-cases u seen t h) [
        | inl is ↦ subst (λ (x : Content). IsBefore x s) is
            (at_member (IsBefore u) (seen ++ s ∷ left) s ordered.0 (Contains-append_right seen (s ∷ left) s (Contains-here s left)))
        | inr there ↦ rest.before t there
      ];
      after = rest.after;
    }

-- ---- what the loop keeps

-- Of the segments gone through none falls, and the highest sequence of the last one's processor is known. No
-- segment left has a lower processor.
pub record AreScanned (seen left : List Content) (processor highest : ℕ) : Type 0 where
  pub none : (key : ℕ × ℕ) → Falls seen key → ⊥
  pub bound : (t : Content) (f : Event) → Contains seen t → t.processor ≡ processor → Contains t.events f → f.sequence ≤ highest
  pub reached : (highest ≡ 0) ⊎ ((t : Content) × (f : Event) × Contains seen t × (t.processor ≡ processor) × Contains t.events f ×
      (f.sequence ≡ highest))
  pub below : (t : Content) → Contains seen t → t.processor ≤ processor
  pub onward : (t : Content) → Contains left t → processor ≤ t.processor

-- what the next segment's sequences have to be above: the highest of its processor
record IsFloor (seen : List Content) (processor floor : ℕ) : Type 0 where
  pub bound : (t : Content) (f : Event) → Contains seen t → t.processor ≡ processor → Contains t.events f → f.sequence ≤ floor
  pub reached : (floor ≡ 0) ⊎ ((t : Content) × (f : Event) × Contains seen t × (t.processor ≡ processor) × Contains t.events f ×
      (f.sequence ≡ floor))

floor_at : (seen : List Content) (s : Content) (left : List Content) (processor highest floor : ℕ)
    → AreScanned seen (s ∷ left) processor highest
    → floor ≡ cond (eqb s.processor processor) highest 0 → IsFloor seen s.processor floor
floor_at seen s left processor highest floor scanned is =
    elim (cases_Bool (eqb s.processor processor)) [
      | inl holds ↦
          let same = eqb-true s.processor processor holds in
          let top : floor ≡ highest = is ∙ ap (λ (b : Bool). cond b highest 0) holds in
          record {
            bound = λ t f h at in_t. (let le = scanned.bound t f h (at ∙ same) in_t in omega (arith, le, top));
            reached = elim scanned.reached [
              | inl none ↦ inl (top ∙ none)
              | inr (t, f, h, at, in_t, reached) ↦ inr (t, f, h, at ∙ sym same, in_t, reached ∙ sym top)
            ];
          }
      | inr fails ↦
          let other = eqb-false s.processor processor fails in
          record {
            bound = λ t f h at in_t.
                let le = scanned.below t h in
                let onward = scanned.onward s (Contains-here s left) in
                absurd (other (omega (arith, le, onward, at)));
            reached = inl (is ∙ ap (λ (b : Bool). cond b highest 0) fails);
          }
    ]

-- ---- one segment more

falls_more : (seen : List Content) (s : Content) (left : List Content) (floor : ℕ) → IsAmong seen s left → IsFloor seen s.processor floor
    → ((key : ℕ × ℕ) → Falls seen key → ⊥)
    → ((e : Event) → Contains s.events e → floor < e.sequence) → (key : ℕ × ℕ) → Falls (seen ++ s ∷ []) key → ⊥
falls_more seen s left floor place low none up key falls =
    elim (Contains-push_cases seen s falls.segment falls.has_segment) [
      | inl segment_seen ↦ elim (Contains-push_cases seen s falls.lower falls.has_lower) [
        | inl lower_seen ↦ none key (record {
          segment = falls.segment;
          lower = falls.lower;
          has_segment = segment_seen;
          has_lower = lower_seen;
          segment_key = falls.segment_key;
          same_processor = falls.same_processor;
          lower_number = falls.lower_number;
          event = falls.event;
          earlier = falls.earlier;
          has_event = falls.has_event;
          has_earlier = falls.has_earlier;
          falling = falls.falling;
        })
        | inr lower_is ↦
            not_itself (key_of s) (before_before (key_of s) (key_of falls.segment) (key_of s)
            (subst (λ (x : Content). IsKeyBefore (key_of x) (key_of falls.segment)) (sym lower_is)
            (inr (falls.same_processor, falls.lower_number)))
            (place.before falls.segment segment_seen))
      ]
      | inr segment_is ↦ elim (Contains-push_cases seen s falls.lower falls.has_lower) [
        | inl lower_seen ↦
            let at : falls.lower.processor ≡ s.processor = falls.same_processor ∙ ap (λ (x : Content). x.processor) (sym segment_is) in
            let le = low.bound falls.lower falls.earlier lower_seen at falls.has_earlier in
            let above_floor = up falls.event (subst (λ (x : Content). Contains x.events falls.event) (sym segment_is) falls.has_event) in
            omega (arith, le, above_floor, falls.falling)
        | inr lower_is ↦
            not_itself (key_of falls.lower) (subst (λ (x : Content). IsKeyBefore (key_of falls.lower) (key_of x))
            (sym segment_is ∙ lower_is) (inr (falls.same_processor, falls.lower_number)))
      ]
    ]

-- a segment comes no earlier than those before it
pub processor_rises : (s t : Content) → IsBefore s t → s.processor ≤ t.processor
processor_rises s t (inl lt) = omega (arith, lt)
processor_rises s t (inr same) = omega (arith, same.0)

below_more : (seen : List Content) (s : Content) (left : List Content) → IsAmong seen s left → (t : Content) → Contains (seen ++ s ∷ []) t
    → t.processor ≤ s.processor
below_more seen s left place t h =
    elim (Contains-push_cases seen s t h) [
      | inl there ↦ processor_rises t s (place.before t there)
      | inr is ↦ (let same : s.processor ≡ t.processor = ap (λ (x : Content). x.processor) is in omega (arith, same))
    ]

scanned_some : (seen : List Content) (s : Content) (left : List Content) (floor first last : ℕ) → IsAmong seen s left
    → IsFloor seen s.processor floor → ((key : ℕ × ℕ) → Falls seen key → ⊥)
    → IsSpanOf s.events (from_to first last) → floor < first → AreScanned (seen ++ s ∷ []) left s.processor last
scanned_some seen s left floor first last place low none span above_floor = record {
  none = falls_more seen s left floor place low none (λ e h. let least = (span.between e h).0 in omega (arith, above_floor, least));
  bound = λ t f h at in_t. elim (Contains-push_cases seen s t h) [
    | inl there ↦
        let le = low.bound t f there at in_t in
        let (e, in_s, is) = span.has_first in
        let top = (span.between e in_s).1 in
        omega (arith, le, above_floor, is, top)
    | inr is ↦ (span.between f (subst (λ (x : Content). Contains x.events f) (sym is) in_t)).1
  ];
  reached = (let (e, in_s, is) = span.has_last in inr (s, e, Contains-push seen s, refl, in_s, is));
  below = below_more seen s left place;
  onward = λ t h. processor_rises s t (place.after t h);
}

scanned_empty : (seen : List Content) (s : Content) (left : List Content) (floor : ℕ) → IsAmong seen s left
    → IsFloor seen s.processor floor → ((key : ℕ × ℕ) → Falls seen key → ⊥)
    → s.events ≡ [] → AreScanned (seen ++ s ∷ []) left s.processor floor
scanned_empty seen s left floor place low none empty = record {
  none = falls_more seen s left floor place low none (λ e h. absurd (no_event e h));
  bound = λ t f h at in_t. elim (Contains-push_cases seen s t h) [
    | inl there ↦ low.bound t f there at in_t
    | inr is ↦ absurd (no_event f (subst (λ (x : Content). Contains x.events f) (sym is) in_t))
  ];
  reached = elim low.reached [
    | inl none ↦ inl none
    | inr (t, f, h, at, in_t, is) ↦ inr (t, f, Contains-append_left seen (s ∷ []) t h, at, in_t, is)
  ];
  below = below_more seen s left place;
  onward = λ t h. processor_rises s t (place.after t h);
}
  where
    no_event : (e : Event) → Contains s.events e → ⊥
    no_event e h = Contains-nil e (subst (λ (es : List Event). Contains es e) empty h)

-- a segment of a key before this one's is among those gone through
seen_before : (seen : List Content) (s : Content) (left : List Content) → IsAmong seen s left → (t : Content)
    → Contains (seen ++ s ∷ left) t → IsKeyBefore (key_of t) (key_of s) → Contains seen t
seen_before seen s left place t h before =
    elim (Contains-append_cases seen (s ∷ left) t h) [
      | inl there ↦ there
      | inr rest ↦ elim (Contains-cases s left t rest) [
        | inl is ↦ absurd (not_itself (key_of s) (subst (λ (x : Content). IsKeyBefore (key_of x) (key_of s)) (sym is) before))
        | inr later ↦ absurd (not_itself (key_of t) (before_before (key_of t) (key_of s) (key_of t) before (place.after t later)))
      ]
    ]

fall_found : (seen : List Content) (s : Content) (left : List Content) (floor first last : ℕ) → IsAmong seen s left
    → IsFloor seen s.processor floor → ((key : ℕ × ℕ) → Falls seen key → ⊥)
    → Fits s → IsSpanOf s.events (from_to first last) → first ≤ floor → IsLeastSuch IsKeyBefore (Falls (seen ++ s ∷ left)) (key_of s)
fall_found seen s left floor first last place low none fit span le = record {
  holds = elim low.reached [
    | inl none ↦
        let (e, in_s, is) = span.has_first in
        let some = above s.version 0 s.events fit.events e in_s in
        absurd (omega (arith, none, le, is, some))
    | inr (t, f, h, at, in_t, is) ↦
        let (e, in_s, first_is) = span.has_first in
        record {
          segment = s;
          lower = t;
          has_segment = Contains-append_right seen (s ∷ left) s (Contains-here s left);
          has_lower = Contains-append_left seen (s ∷ left) t h;
          segment_key = refl;
          same_processor = at;
          lower_number = lower_number t h at;
          event = e;
          earlier = f;
          has_event = in_s;
          has_earlier = in_t;
          falling = omega (arith, first_is, is, le);
        }
  ];
  least = λ key before falls.
      let segment_before : IsKeyBefore (key_of falls.segment) (key_of s) = subst (λ (k : ℕ × ℕ). IsKeyBefore k (key_of s))
      (sym falls.segment_key) before in
      let lower_before = before_before (key_of falls.lower) (key_of falls.segment) (key_of s)
      (inr (falls.same_processor, falls.lower_number)) segment_before in
      none key (record {
        segment = falls.segment;
        lower = falls.lower;
        has_segment = seen_before seen s left place falls.segment falls.has_segment segment_before;
        has_lower = seen_before seen s left place falls.lower falls.has_lower lower_before;
        segment_key = falls.segment_key;
        same_processor = falls.same_processor;
        lower_number = falls.lower_number;
        event = falls.event;
        earlier = falls.earlier;
        has_event = falls.has_event;
        has_earlier = falls.has_earlier;
        falling = falls.falling;
      });
}
  where
    number_of : (t : Content) → IsBefore t s → t.processor ≡ s.processor → t.number < s.number
    number_of t (inl lt) at = absurd (omega (arith, lt, at))
    number_of t (inr same) at = same.1

    lower_number : (t : Content) → Contains seen t → t.processor ≡ s.processor → t.number < s.number
    lower_number t h at = number_of t (place.before t h) at

-- ---- the same at the place that the loop has come to

module _ (ss : List Content) (ordered : AreInOrder ss) (i : ℕ) (s : Content) (lt : i < length ss) (is : s ≡ get_or ss i s) where
  here : drop i ss ≡ s ∷ drop (i + 1) ss
  here = drop_more ss i s lt ∙ ap (λ (x : Content). x ∷ drop (i + 1) ss) (sym is)

  more : take (i + 1) ss ≡ take i ss ++ s ∷ []
  more = take_more ss i s lt ∙ ap (λ (x : Content). take i ss ++ x ∷ []) (sym is)

  whole : take i ss ++ s ∷ drop (i + 1) ss ≡ ss
  whole = ap (λ (left : List Content). take i ss ++ left) (sym here) ∙ take-append-drop i ss

  place : IsAmong (take i ss) s (drop (i + 1) ss)
  place = among (take i ss) s (drop (i + 1) ss) (subst AreInOrder (sym whole) ordered)

  floor_here : (processor highest floor : ℕ) → AreScanned (take i ss) (drop i ss) processor highest
      → floor ≡ cond (eqb s.processor processor) highest 0 → IsFloor (take i ss) s.processor floor
  floor_here processor highest floor scanned floor_is =
      floor_at (take i ss) s (drop (i + 1) ss) processor highest floor
      (subst (λ (left : List Content). AreScanned (take i ss) left processor highest) here scanned) floor_is

  more_here : (processor highest floor : ℕ) (o : Outline) → Fits s → o ≡ outline_of s
      → AreScanned (take i ss) (drop i ss) processor highest → floor ≡ cond (eqb o.processor processor) highest 0
      → ((0 < o.first) × (o.first ≤ floor) → ⊥) → AreScanned (take (i + 1) ss) (drop (i + 1) ss) o.processor (max o.last floor)
  more_here processor highest floor o fit outlined scanned floor_is none =
      let at : o.processor ≡ s.processor = ap (λ (p : Outline). p.processor) outlined in
      let first = ap (λ (p : Outline). p.first) outlined in
      let last : o.last ≡ last_sequence 0 s.events = ap (λ (p : Outline). p.last) outlined in
      let low = floor_here processor highest floor scanned (floor_is ∙ ap (λ (p : ℕ). cond (eqb p processor) highest 0) at) in
      rw (more, at) (elim (none_or_some s fit) [
        | inl empty ↦
            let top : max o.last floor ≡ floor = (let none_last = empty.last in omega (arith, last, none_last)) in
            rw top (scanned_empty (take i ss) s (drop (i + 1) ss) floor place low scanned.none empty.none)
        | inr some ↦
            let begun = some.first in
            let up : floor < o.first = elim (cases_lt floor o.first) [
              | inl lt ↦ lt
              | inr le ↦ absurd (none (omega (arith, first, begun), le))
            ] in
            let (e, in_s, e_is) = some.span.has_first in
            let under = (some.span.between e in_s).1 in
            let top : max o.last floor ≡ last_sequence 0 s.events = omega (arith, last, first, up, e_is, under) in
            rw top (scanned_some (take i ss) s (drop (i + 1) ss) floor (first_sequence s.events) (last_sequence 0 s.events) place low
            scanned.none some.span (omega (arith, up, first)))
      ])

  found_here : (processor highest floor : ℕ) (o : Outline) → Fits s → o ≡ outline_of s
      → AreScanned (take i ss) (drop i ss) processor highest → floor ≡ cond (eqb o.processor processor) highest 0
      → 0 < o.first → o.first ≤ floor → IsLeastSuch IsKeyBefore (Falls ss) (key_of s)
  found_here processor highest floor o fit outlined scanned floor_is begun le =
      let at : o.processor ≡ s.processor = ap (λ (p : Outline). p.processor) outlined in
      let first = ap (λ (p : Outline). p.first) outlined in
      let low = floor_here processor highest floor scanned (floor_is ∙ ap (λ (p : ℕ). cond (eqb p processor) highest 0) at) in
      elim (none_or_some s fit) [
        | inl empty ↦ absurd (let none_first = empty.first in omega (arith, first, none_first, begun))
        | inr some ↦ subst (λ (all : List Content). IsLeastSuch IsKeyBefore (Falls all) (key_of s)) whole
            (fall_found (take i ss) s (drop (i + 1) ss) floor (first_sequence s.events) (last_sequence 0 s.events) place low scanned.none
            fit some.span (omega (arith, le, first)))
      ]

-- ---- the segment behind an outline

pub record IsBehind (ss : List Content) (i : ℕ) (o : Outline) : Type 0 where
  pub segment : Content
  pub within : i < length ss
  pub here : segment ≡ get_or ss i segment
  pub outlined : o ≡ outline_of segment

-- behind an outline at a place stands the segment that it is of
pub behind : (ss : List Content) (i : ℕ) (o d : Outline) → i < length (map outline_of ss) → o ≡ get_or (map outline_of ss) i d → IsBehind ss i o
behind [] i o d lt is = absurd (omega (arith, lt))
behind (s ∷ ss) zero o d lt is = record { segment = s; within = omega arith; here = refl; outlined = is }
behind (s ∷ ss) (suc i) o d lt is =
    let rest = behind ss i o d (omega (arith, lt)) is in
    let within = rest.within in
    record { segment = rest.segment; within = omega (arith, within); here = rest.here; outlined = rest.outlined }

-- what the loop keeps, for all segments that the outlines are of
abbrev pub AreScannedTo : List Outline → ℕ → ℕ → ℕ → Type 0
AreScannedTo outlines i processor highest = (ss : List Content) → outlines ≡ map outline_of ss → AreInOrder ss → All Fits ss
    → AreScanned (take i ss) (drop i ss) processor highest

module _ (outlines : List Outline) (i : ℕ) (o d : Outline) (lt : i < length outlines) (is : o ≡ get_or outlines i d)
    (processor highest floor : ℕ) (scanned : AreScannedTo outlines i processor highest)
    (floor_is : floor ≡ cond (eqb o.processor processor) highest 0) where
  behind_here : (ss : List Content) → outlines ≡ map outline_of ss → IsBehind ss i o
  behind_here ss are = behind ss i o d (rw are at lt) (rw are at is)

  -- where the outline has no sequence, or is above all before it of its processor, one outline more was scanned
  pub scan_more : ((0 < o.first) × (o.first ≤ floor) → ⊥) → AreScannedTo outlines (i + 1) o.processor (max o.last floor)
  scan_more none ss are ordered fit =
      let at = behind_here ss are in
      more_here ss ordered i at.segment at.within at.here processor highest floor o
      (rw (← at.here) at (fit i at.segment at.within)) at.outlined (scanned ss are ordered fit) floor_is none

  -- where the outline's first sequence isn't above those before it, its key is the least that falls
  pub scan_found : 0 < o.first → o.first ≤ floor → (ss : List Content) → outlines ≡ map outline_of ss → AreInOrder ss → All Fits ss
      → IsLeastSuch IsKeyBefore (Falls ss) (outline_key o)
  scan_found begun le ss are ordered fit =
      let at = behind_here ss are in
      subst (λ (p : Outline). IsLeastSuch IsKeyBefore (Falls ss) (outline_key p)) (sym at.outlined)
      (found_here ss ordered i at.segment at.within at.here processor highest floor o
      (rw (← at.here) at (fit i at.segment at.within)) at.outlined (scanned ss are ordered fit) floor_is begun le)

-- where all outlines were scanned, no key falls
pub scan_all : (outlines : List Outline) (i processor highest : ℕ) → length outlines ≤ i → AreScannedTo outlines i processor highest
    → (ss : List Content) → outlines ≡ map outline_of ss → AreInOrder ss → All Fits ss → (key : ℕ × ℕ) → Falls ss key → ⊥
scan_all outlines i processor highest le scanned ss are ordered fit key falls =
    let end : length ss ≤ i = subst (λ (n : ℕ). n ≤ i) (ap length are ∙ length-map ss outline_of) le in
    (scanned ss are ordered fit).none key (rw (take_all i ss end) falls)
