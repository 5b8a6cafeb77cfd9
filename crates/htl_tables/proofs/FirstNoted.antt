-- Once a list of events was noted, a key has the first of its latest events.
use Rattle.std.proofs.Common.{◌≡◌, ℕ, zero, suc, true, false, ◌<◌, ◌≤◌, List, [], ◌∷◌, ◌++◌, length, Option, Some, None, refl, sym, ap}
use Rattle.std.proofs.Common.{◌∙◌, inl, inr, ◌⊎◌, arith, subst, slice_get, fold, Contains, MatchOption, append_assoc, append-nil}
use Rattle.std.proofs.lemmas.Bool.{cases_Bool, cases_lt, cases_eq, both_ways, lt-ltb, le-ltb}
use Rattle.std.proofs.lemmas.Option.{slice_get_within, slice_get-get_or, same_Some, none-some, get_or_from_slice_get}
use Rattle.htl_event.specs.Events.{Event}
use Rattle.htl_event.specs.Handles.{LatestIs, later}
use Rattle.htl_tables.specs.Latest.{with_event, noted}
use Rattle.htl_event.proofs.EventTests.{opens_or_closes_base}
use Rattle.htl_event.proofs.EventTests.{opens_or_closes_base-decides}
use Rattle.htl_tables.proofs.FlatPlaces.{get_left}

-- ---- elements of a list by their places

-- the element put behind a list stands at the place that is the list's length
pub get_last : {X : Type 0} (xs : List X) (x : X) → slice_get (xs ++ x ∷ []) (length xs) ≡ Some x
get_last [] x = refl
get_last (z ∷ zs) x = get_last zs x

pub get_cases : {X : Type 0} (xs : List X) (y : X) (i : ℕ) (x : X) → slice_get (xs ++ y ∷ []) i ≡ Some x
    → (slice_get xs i ≡ Some x) ⊎ ((i ≡ length xs) × (y ≡ x))
get_cases [] y zero x at = inr (refl, same_Some y x at)
get_cases [] y (suc i) x at = absurd (none-some x at)
get_cases (z ∷ zs) y zero x at = inl at
get_cases (z ∷ zs) y (suc i) x at = elim (get_cases zs y i x at) [ inl there ↦ inl there | inr last ↦ inr (ap suc last.0, last.1) ]

-- ---- the first of the latest

-- the event opens or closes the handle, none that does has a greater sequence, and none before it the same
pub record IsFirst (events : List Event) (process base : ℕ) (e : Event) : Type 0 where
  pub index : ℕ
  pub at : slice_get events index ≡ Some e
  pub of_handle : opens_or_closes_base process base e ≡ true
  pub first : (i : ℕ) (x : Event) → slice_get events i ≡ Some x → opens_or_closes_base process base x ≡ true
      → (x.sequence < e.sequence) ⊎ ((x.sequence ≡ e.sequence) × (index ≤ i))

-- the event, or none where no event opens or closes the handle, is the first of the latest
abbrev pub FirstIs : List Event → ℕ → ℕ → Option Event → Type 0
FirstIs events process base o =
    MatchOption o ((i : ℕ) (x : Event) → slice_get events i ≡ Some x → opens_or_closes_base process base x ≡ true → ⊥)
    (IsFirst events process base)

-- there is one first of the latest
pub FirstIs-unique : (events : List Event) (process base : ℕ) (a b : Option Event) → FirstIs events process base a
    → FirstIs events process base b → a ≡ b
FirstIs-unique events process base None None p q = refl
FirstIs-unique events process base None (Some y) p q = absurd (p q.index y q.at q.of_handle)
FirstIs-unique events process base (Some x) None p q = absurd (q p.index x p.at p.of_handle)
FirstIs-unique events process base (Some x) (Some y) p q =
    elim (p.first q.index y q.at q.of_handle) [
      | inl lt ↦ elim (q.first p.index x p.at p.of_handle) [
        | inl gt ↦ absurd (omega (arith, lt, gt))
        | inr same ↦ let e = same.0 in absurd (omega (arith, lt, e))
      ]
      | inr here ↦ elim (q.first p.index x p.at p.of_handle) [
        | inl gt ↦ let e = here.0 in absurd (omega (arith, gt, e))
        | inr there ↦
            let le = here.1 in let ge = there.1 in
            let i : p.index ≡ q.index = omega (arith, le, ge) in
            sym p.at ∙ ap (slice_get events) i ∙ q.at
      ]
    ]

module _ (process base : ℕ) where
  first_step : (events : List Event) (e : Event) (o : Option Event) → FirstIs events process base o
      → FirstIs (events ++ e ∷ []) process base (with_event process base o e)
  first_step events e o h = elim (cases_Bool (opens_or_closes_base process base e)) [
    | inl t ↦ rw t (of_its_handle o h t)
    | inr f ↦ rw f (other o h f)
  ] where
    other : (p : Option Event) → FirstIs events process base p → opens_or_closes_base process base e ≡ false
        → FirstIs (events ++ e ∷ []) process base p
    other None none f = λ i x at c. elim (get_cases events e i x at) [
      | inl there ↦ none i x there c
      | inr last ↦ both_ways (opens_or_closes_base process base x) (ap (opens_or_closes_base process base) (sym last.1) ∙ f) c
    ]
    other (Some y) one f = record {
      index = one.index;
      at = get_left events (e ∷ []) one.index y one.at;
      of_handle = one.of_handle;
      first = λ i x at c. elim (get_cases events e i x at) [
        | inl there ↦ one.first i x there c
        | inr last ↦ absurd (both_ways (opens_or_closes_base process base x) (ap (opens_or_closes_base process base) (sym last.1) ∙ f) c)
      ];
    }

    of_its_handle : (p : Option Event) → FirstIs events process base p → opens_or_closes_base process base e ≡ true
        → FirstIs (events ++ e ∷ []) process base (later p (Some e))
    of_its_handle None none t = record {
      index = length events;
      at = get_last events e;
      of_handle = t;
      first = λ i x at c. elim (get_cases events e i x at) [
        | inl there ↦ absurd (none i x there c)
        | inr last ↦ let le = last.0 in inr (ap (λ (y : Event). y.sequence) (sym last.1), omega (arith, le))
      ];
    }
    of_its_handle (Some y) one t = elim (cases_lt y.sequence e.sequence) [
      | inl lt ↦ rw (lt-ltb y.sequence e.sequence lt) (record {
        index = length events;
        at = get_last events e;
        of_handle = t;
        first = λ i x at c. elim (get_cases events e i x at) [
          | inl there ↦ elim (one.first i x there c) [
            | inl below ↦ inl (omega (arith, below, lt))
            | inr same ↦ (let s = same.0 in inl (omega (arith, s, lt)))
          ]
          | inr last ↦ (let le = last.0 in inr (ap (λ (z : Event). z.sequence) (sym last.1), omega (arith, le)))
        ];
      })
      | inr ge ↦ rw (le-ltb y.sequence e.sequence ge) (record {
        index = one.index;
        at = get_left events (e ∷ []) one.index y one.at;
        of_handle = one.of_handle;
        first = λ i x at c. elim (get_cases events e i x at) [
          | inl there ↦ one.first i x there c
          | inr last ↦
              let s : x.sequence ≡ e.sequence = ap (λ (z : Event). z.sequence) (sym last.1) in
              let le : one.index ≤ i = (let within = slice_get_within events one.index y one.at in let end = last.0 in
              omega (arith, within, end)) in
              elim (cases_eq x.sequence y.sequence) [ inl same ↦ inr (same, le) | inr ne ↦ inl (omega (arith, ne, s, ge)) ]
        ];
      })
    ]

  first_fold : (before events : List Event) (o : Option Event) → FirstIs before process base o
      → FirstIs (before ++ events) process base (fold (with_event process base) o events)
  first_fold before [] o h = subst (λ (es : List Event). FirstIs es process base o) (sym (append-nil before)) h
  first_fold before (e ∷ events) o h =
      subst (λ (es : List Event). FirstIs es process base (fold (with_event process base) (with_event process base o e) events))
      (append_assoc before (e ∷ []) events)
      (first_fold (before ++ e ∷ []) events (with_event process base o e) (first_step before e o h))

  -- what the notes of a list leave is the first of its latest events
  pub FirstIs-noted : (events : List Event) → FirstIs events process base (noted events process base)
  FirstIs-noted events = first_fold [] events None (λ i x at c. none-some x at)

  -- ---- and it is the latest

  member_at : (events : List Event) (x : Event) → Contains events x → (i : ℕ) × (slice_get events i ≡ Some x)
  member_at events x (k, lt, is) = (k, slice_get-get_or events k x lt ∙ ap (λ (y : Event). Some y) is)

  latest_first : (events : List Event) (o : Option Event) → FirstIs events process base o → LatestIs (Contains events) process base o
  latest_first events None none = λ x here c. let at = member_at events x here in
      none at.0 x at.1 ((opens_or_closes_base-decides process base x).1 c)
  latest_first events (Some e) one = record {
    here = (one.index, slice_get_within events one.index e one.at, get_or_from_slice_get events one.index e e one.at);
    of_handle = (opens_or_closes_base-decides process base e).0 one.of_handle;
    greatest = λ x here c.
        let at = member_at events x here in
        elim (one.first at.0 x at.1 ((opens_or_closes_base-decides process base x).1 c)) [
          | inl lt ↦ omega (arith, lt)
          | inr same ↦ (let s = same.0 in omega (arith, s))
        ];
  }

  -- what the notes of a list of events leave at a handle is its latest event
  pub LatestIs-noted : (events : List Event) → LatestIs (Contains events) process base (noted events process base)
  LatestIs-noted events = latest_first events (noted events process base) (FirstIs-noted events)
