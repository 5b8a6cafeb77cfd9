-- Each answer about handles can be computed: a function gives it, and where it is a list, wherever that rises.
use Rattle.std.proofs.Common.{◌≡◌, ℕ, ◌<◌, ◌≤◌, Bool, true, List, [], ◌∷◌, Option, Some}
use Rattle.std.proofs.Common.{None, refl, sym, ap, subst, arith, inl, inr, ◌⊎◌, ◌&&◌, ◌||◌}
use Rattle.std.specs.Prelude.{Contains, ◌↔◌, nat_lt, nat_le, max, filter, if◌then◌else◌}
use Rattle.std.specs.Bool.{Decides}
use Rattle.std.proofs.lemmas.Bool.{and_parts, and_from, cases_Bool, ltb-true, leb-true, le-leb, lt-ltb}
use Rattle.std.proofs.lemmas.Bool.Decides.{Decides-and, Decides-or, Decides-like, not_from_Decides}
use Rattle.htl_event.specs.Events.{Event}
use Rattle.htl_event.specs.declared.kind.Kind.TheVariants.{Opened, Closed, BadRef, Snapshot, Exited}
use Rattle.htl_event.specs.Slots.{base_of}
use Rattle.htl_event.specs.Handles.{opens_or_closes, IsOf, OpensOrCloses, LatestIs, later, IsGreatestSequence, IsLastExit, IsMark}
use Rattle.htl_event.specs.Handles.{IsOpen, ByBase, IsOutstanding, IsDiff, IsOfHandle, NewestFirst, IsListing}
use Rattle.htl_event.proofs.EventTests.{is_kind, is_kind-decides, is_of, is_of-decides}
use Rattle.htl_event.proofs.EventTests.{names, names-decides, opens_or_closes_base, opens_or_closes_base-decides}
use Rattle.htl_event.proofs.Members.{Contains-cases, Contains-cons, Contains-nil}
use Rattle.htl_event.proofs.Determined.{IsGreatestSequence-unique}
use Rattle.htl_event.proofs.Unions.{LatestIs-later, IsGreatestSequence-max, union_where}
use Rattle.htl_event.proofs.Ordered.{is_rising, ordered, Lists-filter}

-- ---- tests of one event

abbrev pub is_of_handle : ℕ → ℕ → Event → Bool
is_of_handle process base e = (is_kind Opened e || (is_kind Closed e || is_kind BadRef e)) && names process base e

is_of_handle-decides : (process base : ℕ) (e : Event) → Decides (is_of_handle process base e) (IsOfHandle process base e)
is_of_handle-decides process base e =
    Decides-like _ (λ h. record { kind = h.0; owner = h.1.0; handle = h.1.1 }) (λ c. (c.kind, (c.owner, c.handle)))
    (Decides-and _ _ (Decides-or _ _ (is_kind-decides Opened e) (Decides-or _ _ (is_kind-decides Closed e) (is_kind-decides BadRef e)))
    (names-decides process base e))

-- ---- the latest event, one by one from the front

head_or_tail : (e : Event) (es : List Event) (x : Event) → Contains (e ∷ es) x ↔ ((e ≡ x) ⊎ Contains es x)
head_or_tail e es x = (Contains-cases e es x, Contains-cons e es x)

abbrev latest_one : Event → ℕ → ℕ → Option Event
latest_one e process base = if opens_or_closes_base process base e then Some e else None

abbrev pub latest_of : List Event → ℕ → ℕ → Option Event
latest_of [] process base = None
latest_of (e ∷ es) process base = later (latest_one e process base) (latest_of es process base)

LatestIs-latest_one : (e : Event) (process base : ℕ) → LatestIs (λ x. e ≡ x) process base (latest_one e process base)
LatestIs-latest_one e process base = elim (cases_Bool (opens_or_closes_base process base e)) [
  | inl holds ↦ rw holds (record {
    here = refl;
    of_handle = (opens_or_closes_base-decides process base e).0 holds;
    greatest = λ x is c. subst (λ (y : Event). y.sequence ≤ e.sequence) is (omega arith);
  })
  | inr fails ↦ rw fails (λ x is c. not_from_Decides _ (opens_or_closes_base-decides process base e) fails
      (subst (OpensOrCloses process base) (sym is) c))
]

-- the computed latest event of a base handle is the latest over the list
pub LatestIs-latest_of : (es : List Event) (process base : ℕ) → LatestIs (Contains es) process base (latest_of es process base)
LatestIs-latest_of [] process base = λ x h c. Contains-nil x h
LatestIs-latest_of (e ∷ es) process base =
    LatestIs-later _ _ _ (head_or_tail e es) process base _ _ (LatestIs-latest_one e process base) (LatestIs-latest_of es process base)

-- ---- the greatest sequence of the events that pass a test

abbrev greatest_one : (Event → Bool) → Event → ℕ
greatest_one test e = if test e then e.sequence else 0

abbrev pub greatest_of : (Event → Bool) → List Event → ℕ
greatest_of test [] = 0
greatest_of test (e ∷ es) = max (greatest_one test e) (greatest_of test es)

module _ (test : Event → Bool) (P : Event → Type 0) (decides : (e : Event) → Decides (test e) (P e)) where
  IsGreatestSequence-greatest_one : (e : Event) → IsGreatestSequence (λ x. (e ≡ x) × P x) (greatest_one test e)
  IsGreatestSequence-greatest_one e = elim (cases_Bool (test e)) [
    | inl holds ↦ rw holds (record {
      bound = λ x h. subst (λ (y : Event). y.sequence ≤ e.sequence) h.0 (omega arith);
      reached = inr (e, (refl, (decides e).0 holds), refl);
    })
    | inr fails ↦ rw fails
        (record { bound = λ x h. absurd (not_from_Decides _ (decides e) fails (subst P (sym h.0) h.1)); reached = inl refl })
  ]

  pub IsGreatestSequence-greatest_of : (es : List Event) → IsGreatestSequence (λ e. Contains es e × P e) (greatest_of test es)
  IsGreatestSequence-greatest_of [] = record { bound = λ x h. absurd (Contains-nil x h.0); reached = inl refl }
  IsGreatestSequence-greatest_of (e ∷ es) =
      IsGreatestSequence-max _ _ _ (union_where (λ x. e ≡ x) (Contains es) (Contains (e ∷ es)) P (head_or_tail e es)) _ _
      (IsGreatestSequence-greatest_one e) (IsGreatestSequence-greatest_of es)

abbrev pub mark_of : List Event → ℕ → ℕ
mark_of es process = greatest_of (is_of Snapshot process) es

-- the computed mark is the process's snapshot mark
pub IsMark-mark_of : (es : List Event) (process : ℕ) → IsMark (Contains es) process (mark_of es process)
IsMark-mark_of es process = IsGreatestSequence-greatest_of (is_of Snapshot process) (IsOf Snapshot process)
    (is_of-decides Snapshot process) es

-- the greatest sequence of the exits of a process in the list
abbrev pub last_exit_of : List Event → ℕ → ℕ
last_exit_of es process = greatest_of (is_of Exited process) es

-- the computed last exit is the process's last exit
pub IsLastExit-last_exit_of : (es : List Event) (process : ℕ) → IsLastExit (Contains es) process (last_exit_of es process)
IsLastExit-last_exit_of es process =
    IsGreatestSequence-greatest_of (is_of Exited process) (IsOf Exited process) (is_of-decides Exited process) es

-- ---- outstanding handles

module _ (es : List Event) (process : ℕ) where
  -- the greatest sequence of the opens and closes of a base handle
  abbrev touched : ℕ → ℕ
  touched base = greatest_of (opens_or_closes_base process base) es

  IsGreatestSequence-touched : (base : ℕ) → IsGreatestSequence (λ x. Contains es x × OpensOrCloses process base x) (touched base)
  IsGreatestSequence-touched base = IsGreatestSequence-greatest_of (opens_or_closes_base process base) (OpensOrCloses process base)
      (opens_or_closes_base-decides process base) es

  -- an open of the process that no open or close of its handle and no exit came after
  abbrev pub is_open : Event → Bool
  is_open e = is_of Opened process e && (nat_le (touched (base_of e.handle)) e.sequence && nat_lt (last_exit_of es process) e.sequence)

  open_from_test : (e : Event) → Contains es e → is_open e ≡ true → IsOpen (Contains es) process e
  open_from_test e here t =
      let parts = and_parts _ _ t in
      let times = and_parts _ _ parts.1 in
      let opens = (is_of-decides Opened process e).0 parts.0 in
      let last : touched (base_of e.handle) ≤ e.sequence = leb-true _ _ times.0 in
      let after : last_exit_of es process < e.sequence = ltb-true _ _ times.1 in
      record {
        opens = opens.0;
        latest = record {
          here = here;
          of_handle = record { kind = ap opens_or_closes opens.0; owner = opens.1; handle = refl };
          greatest = λ x into c. let le = (IsGreatestSequence-touched (base_of e.handle)).bound x (into, c) in omega (arith, le, last);
        };
        outlives = λ n exit. let is = IsGreatestSequence-unique _ n _ exit (IsLastExit-last_exit_of es process) in
            omega (arith, is, after);
      }

  test_from_open : (e : Event) → IsOpen (Contains es) process e → is_open e ≡ true
  test_from_open e o =
      let last : touched (base_of e.handle) ≤ e.sequence = elim (IsGreatestSequence-touched (base_of e.handle)).reached [
        | inl none ↦ omega (arith, none)
        | inr some ↦ let le = o.latest.greatest some.0 some.1.0 some.1.1 in let is = some.2 in omega (arith, le, is)
      ] in
      let after = o.outlives _ (IsLastExit-last_exit_of es process) in
      and_from _ _ ((is_of-decides Opened process e).1 (o.opens, o.latest.of_handle.owner))
      (and_from _ _ (le-leb _ _ last) (lt-ltb _ _ after))

  pub open_where : (e : Event) → (Contains es e × (is_open e ≡ true)) ↔ IsOpen (Contains es) process e
  open_where e = (λ h. open_from_test e h.0 h.1, λ o. (o.latest.here, test_from_open e o))

abbrev pub by_base : Event → Event → Bool
by_base a b = nat_lt (base_of a.handle) (base_of b.handle)

-- the events of the list that are open, by base handle
abbrev pub outstanding_of : List Event → ℕ → List Event
outstanding_of es process = ordered by_base (filter (is_open es process) es)

-- the computed outstanding handles are those of the process, where they rise by base handle
pub IsOutstanding-outstanding_of : (es : List Event) (process : ℕ) → is_rising by_base (outstanding_of es process) ≡ true
    → IsOutstanding (Contains es) process (outstanding_of es process)
IsOutstanding-outstanding_of es process =
    Lists-filter by_base ByBase (λ a b. ltb-true _ _) (is_open es process) (IsOpen (Contains es) process) es (open_where es process)

abbrev is_opened_since : List Event → ℕ → ℕ → Event → Bool
is_opened_since es process since e = is_open es process e && nat_lt since e.sequence

-- the outstanding handles of the list that were opened after a moment
abbrev pub diff_of : List Event → ℕ → ℕ → List Event
diff_of es process since = ordered by_base (filter (is_opened_since es process since) es)

-- the computed difference is that of the process and the moment, where it rises by base handle
pub IsDiff-diff_of : (es : List Event) (process since : ℕ) → is_rising by_base (diff_of es process since) ≡ true
    → IsDiff (Contains es) process since (diff_of es process since)
IsDiff-diff_of es process since = Lists-filter by_base ByBase (λ a b. ltb-true _ _) (is_opened_since es process since) _ es (λ e. (
  λ h. (let parts = and_parts _ _ h.1 in ((open_where es process e).0 (h.0, parts.0), ltb-true _ _ parts.1)),
  λ h. (let is = (open_where es process e).1 h.0 in (is.0, and_from _ _ is.1 (lt-ltb _ _ h.1))),
))

-- ---- a handle's listing

abbrev pub newest_first : Event → Event → Bool
newest_first a b = nat_lt b.sequence a.sequence

abbrev pub listing_of : List Event → ℕ → ℕ → List Event
listing_of es process handle = ordered newest_first (filter (is_of_handle process (base_of handle)) es)

-- the computed listing is that of the process's handle, where it goes from the newest to the oldest
pub IsListing-listing_of : (es : List Event) (process handle : ℕ) → is_rising newest_first (listing_of es process handle) ≡ true
    → IsListing (Contains es) process handle (listing_of es process handle)
IsListing-listing_of es process handle =
    Lists-filter newest_first NewestFirst (λ a b. ltb-true _ _) (is_of_handle process (base_of handle)) _ es (λ e.
    let decides = is_of_handle-decides process (base_of handle) e in (λ h. (h.0, decides.0 h.1), λ h. (h.0, decides.1 h.1)))
