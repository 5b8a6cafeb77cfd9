-- The events of the taken keys are, processor by processor, those below the front, and then those of the held segments.
use Rattle.std.proofs.Common.{◌≡◌, ℕ, ◌+◌, ◌<◌, ◌≤◌, Bool, true, false, eqb, ltb, List, [], ◌∷◌, ◌++◌, map}
use Rattle.std.proofs.Common.{eqb-true, eq-eqb, refl, sym, ap, ◌∙◌, subst, arith, inl, inr}
use Rattle.std.specs.Prelude.{Contains, ◌==◌, nat_lt, if◌then◌else◌, filter}
use Rattle.std.specs.List.{AllByRecursion, list_any}
use Rattle.std.specs.Cmp.{both_ways}
use Rattle.std.proofs.lemmas.Bool.{cases_eq, cases_lt, false≢true, lt-ltb, le-ltb, ltb-true, and_from, and_parts, or_left}
use Rattle.std.proofs.lemmas.Bool.{or_right, or_cases}
use Rattle.std.proofs.lemmas.Grind.{flat_map-append}
use Rattle.std.proofs.lemmas.List.Elements.{Contains-append_cases, Contains-append_left, Contains-append_right}
use Rattle.htl_event.specs.Events.{Event}
use Rattle.htl_event.proofs.Members.{Contains-here, Contains-there, Contains-cases, Contains-nil, Contains-filter, Contains-from_filter}
use Rattle.htl_event.proofs.Members.{Contains-map, Contains-from_map, at_member, each_member}
use Rattle.htl_segment.specs.Content.{Content, Fits}
use Rattle.htl_segment.specs.Keys.{run_below}
use Rattle.htl_segment.specs.Traces.{Trace, AreInOrder, IsBefore, key_is_in, all_events, events_of}
use Rattle.htl_segment.proofs.Traces.{events_of-agree, events_of-skip, filter_in_order}
use Rattle.htl_taken.specs.Numbers.{Numbers, numbers_at, front_at, loose_at}
use Rattle.htl_taken.specs.declared.TheConstants.{MAX_FRONT}
use Rattle.htl_taken.specs.Rising.{Rises}
use Rattle.htl_taken.proofs.Members.{Contains-head}
use Rattle.htl_taken.proofs.Rising.{Rises-member}
use Rattle.htl_analyst.specs.States.{part_at, held_at, State}
use Rattle.htl_analyst.specs.Keys.{HasTaken, keys}
use Rattle.htl_analyst.specs.Right.{IsOwned, run_events, IsPart, IsRight}
use Rattle.htl_analyst.specs.Laws.{Agree}
use Rattle.htl_analyst.proofs.Held.{number, one_segment}

-- ---- the test and the set

Contains-of_any : (ns : List ℕ) (n : ℕ) → list_any (λ m. m == n) ns ≡ true → Contains ns n
Contains-of_any [] n e = absurd (false≢true e)
Contains-of_any (m ∷ ms) n e =
    elim (or_cases (eqb m n) (list_any (λ k. k == n) ms) e) [
      | inl here ↦ Contains-head m ms n (eqb-true m n here)
      | inr there ↦ Contains-there m ms n (Contains-of_any ms n there)
    ]

any-of_Contains : (ns : List ℕ) (n : ℕ) → Contains ns n → list_any (λ m. m == n) ns ≡ true
any-of_Contains [] n h = absurd (Contains-nil n h)
any-of_Contains (m ∷ ms) n h =
    elim (Contains-cases m ms n h) [
      | inl e ↦ or_left (eqb m n) (list_any (λ k. k == n) ms) (eq-eqb m n e)
      | inr there ↦ or_right (eqb m n) (list_any (λ k. k == n) ms) (any-of_Contains ms n there)
    ]

-- a key that passes the test was taken
pub keys_taken : (a : State) (p n : ℕ) → keys a p n ≡ true → HasTaken a p n
keys_taken a p n e =
    elim (or_cases (ltb n (front_at a.taken p)) (list_any (λ m. m == n) (loose_at a.taken p)) e) [
      | inl low ↦ inl (ltb-true n (front_at a.taken p) low)
      | inr loose ↦ inr (Contains-of_any (loose_at a.taken p) n loose)
    ]

-- a key that was taken passes the test
pub taken_keys : (a : State) (p n : ℕ) → HasTaken a p n → keys a p n ≡ true
taken_keys a p n (inl lt) =
    or_left (ltb n (front_at a.taken p)) (list_any (λ m. m == n) (loose_at a.taken p)) (lt-ltb n (front_at a.taken p) lt)
taken_keys a p n (inr h) =
    or_right (ltb n (front_at a.taken p)) (list_any (λ m. m == n) (loose_at a.taken p)) (any-of_Contains (loose_at a.taken p) n h)

-- the same keys, the same events
pub agree : Agree
agree T a b ra rb into from =
    events_of-agree (keys a) (keys b) T.segments (each_member (λ s. key_is_in (keys a) s ≡ key_is_in (keys b) s) T.segments (λ s h.
    both_ways (keys a s.processor s.number) (keys b s.processor s.number)
    (λ e. taken_keys b s.processor s.number (into s.processor s.number (keys_taken a s.processor s.number e)))
    (λ e. taken_keys a s.processor s.number (from s.processor s.number (keys_taken b s.processor s.number e)))))

-- ---- lists of segments in order are determined by their members

irreflexive : (s : Content) → IsBefore s s → ⊥
irreflexive s (inl lt) = omega arith
irreflexive s (inr both) = omega (arith, both.1)

asymmetric : (s t : Content) → IsBefore s t → IsBefore t s → ⊥
asymmetric s t (inl a) (inl b) = omega arith
asymmetric s t (inl a) (inr b) = omega (arith, b.0)
asymmetric s t (inr a) (inl b) = omega (arith, a.0)
asymmetric s t (inr a) (inr b) = omega (arith, a.1, b.1)

head_same : (x : Content) (xs : List Content) (y : Content) (ys : List Content) → AreInOrder (x ∷ xs) → AreInOrder (y ∷ ys)
    → Contains (y ∷ ys) x → Contains (x ∷ xs) y → x ≡ y
head_same x xs y ys rx ry hx hy =
    elim (Contains-cases y ys x hx) [
      | inl e ↦ sym e
      | inr in_ys ↦ elim (Contains-cases x xs y hy) [
        | inl e ↦ e
        | inr in_xs ↦ absurd (asymmetric x y (at_member (IsBefore x) xs y rx.0 in_xs) (at_member (IsBefore y) ys x ry.0 in_ys))
      ]
    ]

tail_in : (x : Content) (xs : List Content) (y : Content) (ys : List Content) → AreInOrder (x ∷ xs) → x ≡ y
    → ((n : Content) → Contains (x ∷ xs) n → Contains (y ∷ ys) n) → (n : Content) → Contains xs n → Contains ys n
tail_in x xs y ys rx same into n h =
    elim (Contains-cases y ys n (into n (Contains-there x xs n h))) [
      | inl is ↦ absurd (irreflexive x (subst (IsBefore x) (sym (same ∙ is)) (at_member (IsBefore x) xs n rx.0 h)))
      | inr there ↦ there
    ]

ordered_same : (xs ys : List Content) → AreInOrder xs → AreInOrder ys → ((n : Content) → Contains xs n → Contains ys n)
    → ((n : Content) → Contains ys n → Contains xs n) → xs ≡ ys
ordered_same [] [] rx ry f g = refl
ordered_same [] (y ∷ ys) rx ry f g = absurd (Contains-nil y (g y (Contains-here y ys)))
ordered_same (x ∷ xs) [] rx ry f g = absurd (Contains-nil x (f x (Contains-here x xs)))
ordered_same (x ∷ xs) (y ∷ ys) rx ry f g =
    let same : x ≡ y = head_same x xs y ys rx ry (f x (Contains-here x xs)) (g y (Contains-here y ys)) in
    let tails : xs ≡ ys = ordered_same xs ys rx.1 ry.1 (tail_in x xs y ys rx same f) (tail_in y ys x xs ry (sym same) g) in
    cc

append_ordered : (xs ys : List Content) → AreInOrder xs → AreInOrder ys
    → ((x y : Content) → Contains xs x → Contains ys y → IsBefore x y) → AreInOrder (xs ++ ys)
append_ordered [] ys ox oy before = oy
append_ordered (x ∷ xs) ys ox oy before = (
  each_member (IsBefore x) (xs ++ ys) (λ y h. elim (Contains-append_cases xs ys y h) [
    | inl in_xs ↦ at_member (IsBefore x) xs y ox.0 in_xs
    | inr in_ys ↦ before x y (Contains-here x xs) in_ys
  ]),
  append_ordered xs ys ox.1 oy (λ w y h k. before w y (Contains-there x xs w h) k),
)

held_ordered : (p low high : ℕ) (hs : List Content) → Rises low high (map number hs) → AllByRecursion (λ s. s.processor ≡ p) hs
    → AreInOrder hs
held_ordered p low high [] rises owner = tt
held_ordered p low high (h ∷ hs) rises owner = (
  each_member (IsBefore h) hs (λ s in_hs.
      let up = (Rises-member (h.number + 1) high (map number hs) s.number rises.1 (Contains-map number hs s in_hs)).0 in
      let lt : h.number < s.number = omega (arith, up) in
      inr (owner.0 ∙ sym (at_member (λ (t : Content). t.processor ≡ p) hs s owner.1 in_hs), lt)),
  held_ordered p (h.number + 1) high hs rises.1 owner.1,
)

-- ---- the keys of the processors from p on

-- the keys of a set whose processor is p or a later one
abbrev pub from_on : ℕ → (ℕ → ℕ → Bool) → ℕ → ℕ → Bool
from_on p S q n = if nat_lt q p then false else S q n

of_from_on : (S : ℕ → ℕ → Bool) (p q n : ℕ) → from_on p S q n ≡ true → (p ≤ q) × (S q n ≡ true)
of_from_on S p q n e =
    elim (cases_lt q p) [
      | inl lt ↦ absurd (false≢true (sym (rw (lt-ltb q p lt) refl) ∙ e))
      | inr le ↦ (le, sym (at_or_above S p q n le) ∙ e)
    ] where
      at_or_above : (S : ℕ → ℕ → Bool) (p q n : ℕ) → p ≤ q → from_on p S q n ≡ S q n
      at_or_above S p q n le = rw (le-ltb q p le) refl

in_from_on : (S : ℕ → ℕ → Bool) (p q n : ℕ) → p ≤ q → S q n ≡ true → from_on p S q n ≡ true
in_from_on S p q n le e = rw (le-ltb q p le) e

module _ (T : Trace) (a : State) (right : IsRight a T) (p : ℕ) (lt : p < a.processors) where
  abbrev q : Numbers
  q = numbers_at a.taken p

  abbrev held : List Content
  held = held_at a.parts p

  abbrev ss : List Content
  ss = T.segments

  abbrev run : List Content
  run = filter (key_is_in (run_below p q.front)) ss

  abbrev rest : List Content
  rest = filter (key_is_in (from_on (p + 1) (keys a))) ss

  is : IsPart a.trace_id a.processors p q (part_at a.parts p)
  is = right.state.each p lt

  owner : (s : Content) → Contains held s → s.processor ≡ p
  owner s h = (at_member (IsOwned a.trace_id a.processors p) held s is.owned h).processor

  in_trace : (s : Content) → Contains held s → Contains ss s
  in_trace s h = at_member (Contains ss) held s (right.each p lt).held h

  loose : (s : Content) → Contains held s → Contains q.loose s.number
  loose s h = subst (λ (ns : List ℕ). Contains ns s.number) is.numbers (Contains-map number held s h)

  in_run : (s : Content) → Contains run s → Contains ss s × (s.processor ≡ p) × (s.number < q.front)
  in_run s h =
      let k = Contains-from_filter (key_is_in (run_below p q.front)) ss s h in
      let both = and_parts (eqb s.processor p) (ltb s.number q.front) k.1 in
      (k.0, eqb-true s.processor p both.0, ltb-true s.number q.front both.1)

  in_rest : (s : Content) → Contains rest s → Contains ss s × (p + 1 ≤ s.processor) × (keys a s.processor s.number ≡ true)
  in_rest s h =
      let k = Contains-from_filter (key_is_in (from_on (p + 1) (keys a))) ss s h in
      let both = of_from_on (keys a) (p + 1) s.processor s.number k.1 in
      (k.0, both.0, both.1)

  tail_ordered : AreInOrder (held ++ rest)
  tail_ordered =
      append_ordered held rest
      (held_ordered p q.front MAX_FRONT held (subst (Rises q.front MAX_FRONT) (sym is.numbers) is.proper.rises)
      (each_member (λ s. s.processor ≡ p) held owner))
      (filter_in_order (key_is_in (from_on (p + 1) (keys a))) ss right.collection.in_order)
      (λ x y h k. let e = owner x h in let r = in_rest y k in inl (omega (arith, e, r.1)))

  after_run : (x y : Content) → Contains run x → Contains (held ++ rest) y → IsBefore x y
  after_run x y h k =
      let r = in_run x h in
      elim (Contains-append_cases held rest y k) [
        | inl in_held ↦
            let up = (Rises-member q.front MAX_FRONT q.loose y.number is.proper.rises (loose y in_held)).0 in
            let low : x.number < y.number = omega (arith, r.2, up) in
            inr (r.1 ∙ sym (owner y in_held), low)
        | inr in_rest_y ↦ let s = in_rest y in_rest_y in inl (omega (arith, r.1, s.1))
      ]

  whole_ordered : AreInOrder (run ++ (held ++ rest))
  whole_ordered =
      append_ordered run (held ++ rest) (filter_in_order (key_is_in (run_below p q.front)) ss right.collection.in_order) tail_ordered after_run

  -- a segment of a loose number is held
  found : (s : Content) → Contains ss s → s.processor ≡ p → Contains q.loose s.number → Contains held s
  found s h e loose_s =
      let f = Contains-from_map number held s.number (subst (λ (ns : List ℕ). Contains ns s.number) (sym is.numbers) loose_s) in
      subst (Contains held) (one_segment ss right.collection.in_order f.0 s (in_trace f.0 f.1) h (owner f.0 f.1 ∙ sym e) f.2) f.1

  into : (s : Content) → Contains (filter (key_is_in (from_on p (keys a))) ss) s → Contains (run ++ (held ++ rest)) s
  into s h =
      let k = Contains-from_filter (key_is_in (from_on p (keys a))) ss s h in
      let both = of_from_on (keys a) p s.processor s.number k.1 in
      elim (cases_eq s.processor p) [
        | inl e ↦ elim (subst (λ (r : ℕ). HasTaken a r s.number) e (keys_taken a s.processor s.number both.1)) [
          | inl low ↦ Contains-append_left run (held ++ rest) s
              (Contains-filter (key_is_in (run_below p q.front)) ss s k.0
              (and_from (eqb s.processor p) (ltb s.number q.front) (eq-eqb s.processor p e) (lt-ltb s.number q.front low)))
          | inr loose_s ↦ Contains-append_right run (held ++ rest) s (Contains-append_left held rest s (found s k.0 e loose_s))
        ]
        | inr ne ↦ Contains-append_right run (held ++ rest) s (Contains-append_right held rest s
            (Contains-filter (key_is_in (from_on (p + 1) (keys a))) ss s k.0
            (in_from_on (keys a) (p + 1) s.processor s.number (let le = both.0 in omega (arith, le, ne)) both.1)))
      ]

  from : (s : Content) → Contains (run ++ (held ++ rest)) s → Contains (filter (key_is_in (from_on p (keys a))) ss) s
  from s h =
      elim (Contains-append_cases run (held ++ rest) s h) [
        | inl r ↦
            let k = in_run s r in
            let taken : HasTaken a s.processor s.number = subst (λ (r' : ℕ). HasTaken a r' s.number) (sym k.1) (inl k.2) in
            put s k.0 (let e = k.1 in omega (arith, e)) taken
        | inr t ↦ elim (Contains-append_cases held rest s t) [
          | inl in_held ↦
              let e = owner s in_held in
              let taken : HasTaken a s.processor s.number = subst (λ (r' : ℕ). HasTaken a r' s.number) (sym e) (inr (loose s in_held)) in
              put s (in_trace s in_held) (omega (arith, e)) taken
          | inr in_rest_s ↦
              let k = in_rest s in_rest_s in
              put s k.0 (let le = k.1 in omega (arith, le)) (keys_taken a s.processor s.number k.2)
        ]
      ] where
        put : (s : Content) → Contains ss s → p ≤ s.processor → HasTaken a s.processor s.number
            → Contains (filter (key_is_in (from_on p (keys a))) ss) s
        put s h le taken =
            Contains-filter (key_is_in (from_on p (keys a))) ss s h
            (in_from_on (keys a) p s.processor s.number le (taken_keys a s.processor s.number taken))

  -- the events of the processors from p on
  pub events_from : events_of (from_on p (keys a)) ss ≡ run_events T p q.front ++
      (all_events held ++ events_of (from_on (p + 1) (keys a)) ss)
  events_from =
      ap all_events (ordered_same (filter (key_is_in (from_on p (keys a))) ss) (run ++ (held ++ rest))
      (filter_in_order (key_is_in (from_on p (keys a))) ss right.collection.in_order) whole_ordered into from)
      ∙ flat_map-append (λ (s : Content). s.events) run (held ++ rest)
      ∙ ap (λ (es : List Event). run_events T p q.front ++ es) (flat_map-append (λ (s : Content). s.events) held rest)

-- past the last processor there are none
none_from : (S : ℕ → ℕ → Bool) (p : ℕ) (ss : List Content) → ((s : Content) → Contains ss s → s.processor < p)
    → events_of (from_on p S) ss ≡ []
none_from S p [] low = refl
none_from S p (s ∷ ss) low =
    events_of-skip (from_on p S) s ss (rw (lt-ltb s.processor p (low s (Contains-here s ss))) refl)
    ∙ none_from S p ss (λ t h. low t (Contains-there s ss t h))

-- from the last processor's end on no key is left, so there are no events
pub events_past : (T : Trace) (a : State) → IsRight a T → (p : ℕ) → a.processors ≤ p → events_of (from_on p (keys a)) T.segments ≡ []
events_past T a right p le = none_from (keys a) p T.segments (λ s h.
    let fits = (at_member Fits T.segments s right.collection.fit h).processor in
    let same = (at_member (λ (x : Content). (x.trace_id ≡ T.id) × (x.processors ≡ T.processors)) T.segments s right.collection.same h).1 in
    let n = right.processors in
    omega (arith, fits, same, n, le))

-- from the first processor on there are all
pub events_all : (T : Trace) (a : State) → events_of (from_on 0 (keys a)) T.segments ≡ events_of (keys a) T.segments
events_all T a =
    events_of-agree (from_on 0 (keys a)) (keys a) T.segments
    (each_member (λ s. key_is_in (from_on 0 (keys a)) s ≡ key_is_in (keys a) s) T.segments
    (λ s h. rw (le-ltb s.processor 0 (omega arith)) refl))
