-- The listing of a handle has its events, the newest first.
use Rattle.std.proofs.Common.{◌≡◌, ◌≢◌, ℕ, suc, ◌+◌, ◌<◌, ◌≤◌, Bool, true, false, eqb, List, [], ◌∷◌, map}
use Rattle.std.proofs.Common.{refl, sym, ap, ◌∙◌, inl, inr, ◌⊎◌, arith, IsPermutation, IsSortedByKey}
use Rattle.std.specs.Prelude.{Contains, ◌↔◌, filter, cond, ◌&&◌}
use Rattle.std.specs.declared.cmp.Ordering.{Ordering}
use Rattle.std.specs.Ordering.{is_lt, nat_cmp}
use Rattle.std.specs.Cmp.{IsTotalOrder, IsStrictWeakOrder}
use Rattle.std.proofs.lemmas.Bool.{both_ways, cases_Bool, and_parts, and_from, eqb-true, eq-eqb, lt-ltb, cases_order}
use Rattle.std.proofs.lemmas.Cmp.{back_total, on_total, nat_cmp_total}
use Rattle.std.proofs.lemmas.List.Sorted.{sorted_far, ranks_by, IsPermutation-map, IsPermutation-sym, Contains-permutation}
use Rattle.std.proofs.lemmas.List.Sorted.{sum_by-IsPermutation}
use Rattle.htl_event.specs.Events.{Event}
use Rattle.htl_event.specs.declared.kind.Kind.{Kind}
use Rattle.htl_event.specs.declared.kind.Kind.TheVariants.{Opened, Closed, BadRef, Snapshot, Ref, Deref, Exited}
use Rattle.htl_event.specs.Slots.{base_of}
use Rattle.htl_event.specs.Members.{IsRising}
use Rattle.htl_event.specs.Handles.{HaveOwnSequences, IsOfHandle, NewestFirst, IsListing}
use Rattle.htl_event.proofs.Members.{each_member, at_member, Contains-filter, Contains-from_filter, filter-pass, filter-skip}
use Rattle.htl_segment.specs.Repeated.{sequence_of, times}
use Rattle.htl_case.specs.Listed.{is_listed_kind, is_of_handle, IsNewestFirst}
use Rattle.htl_segment.proofs.Times.{times-cons}
use Rattle.htl_case.proofs.Twice.{own_from_times, times_from_own}

-- ---- the newest first

abbrev newer_cmp : Event → Event → Ordering
newer_cmp d e = nat_cmp e.sequence d.sequence

abbrev newer : Event → Event → Bool
newer d e = is_lt (newer_cmp d e)

newer_total : IsTotalOrder newer_cmp
newer_total = on_total sequence_of (back_total nat_cmp_total)

newer_order : IsStrictWeakOrder newer
newer_order = ranks_by newer_total (λ (e : Event). e)

-- events sorted by falling sequences have the newest first
pub newest_first : (es : List Event) → IsSortedByKey sequence_of (λ x y. nat_cmp y x) es → IsNewestFirst es
newest_first [] up = tt
newest_first (e ∷ es) up =
    let later : (x : Event) → Contains es x → e.sequence < x.sequence → ⊥ = λ x h lt.
    (let far = sorted_far newer newer_order (e ∷ es) up 0 (suc h.0) x (omega arith) (omega (arith, h.1)) in
    let here : newer x e ≡ false = ap (λ (y : Event). newer y e) (sym h.2) ∙ far in
    both_ways (newer x e) here (rw (lt-ltb e.sequence x.sequence lt) refl)) in (
      each_member (λ x. e.sequence < x.sequence → ⊥) es later,
      newest_first es (λ k d low lt. let f : suc k + 1 ≡ suc (k + 1) = omega arith in
          rw f at (up (suc k) d (omega arith) (omega (arith, lt)))),
    )

strictly : (es : List Event) → IsNewestFirst es → HaveOwnSequences es → IsRising NewestFirst es
strictly [] first own = tt
strictly (e ∷ es) first own = (
  each_member (λ x. x.sequence < e.sequence) es (λ x h.
      let not_newer = at_member (λ y. e.sequence < y.sequence → ⊥) es x first.0 h in
      let differ = at_member (λ y. e.sequence ≢ y.sequence) es x own.0 h in
      elim (cases_order x.sequence e.sequence) [
        | inl same ↦ absurd (differ (sym same))
        | inr (inl lt) ↦ lt
        | inr (inr gt) ↦ absurd (not_newer gt)
      ]),
  strictly es first.1 own.1,
)

-- ---- events of a handle

listed_kind : (k : Kind) → (is_listed_kind k ≡ true) ↔ ((k ≡ Opened) ⊎ ((k ≡ Closed) ⊎ (k ≡ BadRef)))
listed_kind Opened = (λ e. inl refl, λ h. refl)
listed_kind Closed = (λ e. inr (inl refl), λ h. refl)
listed_kind BadRef = (λ e. inr (inr refl), λ h. refl)
listed_kind Snapshot = (λ e. absurd cc, λ h. elim h [ inl a ↦ absurd cc | inr (inl a) ↦ absurd cc | inr (inr a) ↦ absurd cc ])
listed_kind Ref = (λ e. absurd cc, λ h. elim h [ inl a ↦ absurd cc | inr (inl a) ↦ absurd cc | inr (inr a) ↦ absurd cc ])
listed_kind Deref = (λ e. absurd cc, λ h. elim h [ inl a ↦ absurd cc | inr (inl a) ↦ absurd cc | inr (inr a) ↦ absurd cc ])
listed_kind Exited = (λ e. absurd cc, λ h. elim h [ inl a ↦ absurd cc | inr (inl a) ↦ absurd cc | inr (inr a) ↦ absurd cc ])

of_handle : (process base : ℕ) (e : Event) → (is_of_handle process base e ≡ true) ↔ IsOfHandle process base e
of_handle process base e = (
  λ h.
      let kind = and_parts (eqb (base_of e.handle) base && eqb e.process process) (is_listed_kind e.kind) h in
      let handle = and_parts (eqb (base_of e.handle) base) (eqb e.process process) kind.0 in
      record {
        kind = (listed_kind e.kind).0 kind.1;
        owner = eqb-true e.process process handle.1;
        handle = eqb-true (base_of e.handle) base handle.0;
      },
  λ of. and_from _ _ (and_from _ _ (eq-eqb (base_of e.handle) base of.handle) (eq-eqb e.process process of.owner))
      ((listed_kind e.kind).1 of.kind),
)

-- ---- the listing

-- a filter leaves a sequence no more often than before
pub fewer : (p : Event → Bool) (x : ℕ) (es : List Event) → times x (map sequence_of (filter p es)) ≤ times x (map sequence_of es)
fewer p x [] = omega arith
fewer p x (e ∷ es) =
    let rest = fewer p x es in
    let all = times-cons x e.sequence (map sequence_of es) in
    elim (cases_Bool (p e)) [
      | inl passes ↦ (let kept = times-cons x e.sequence (map sequence_of (filter p es)) in rw (filter-pass p e es passes)
          (omega (arith, rest, all, kept)))
      | inr fails ↦ rw (filter-skip p e es fails) (omega (arith, rest, all))
    ]

-- a sequence comes as often in another order
pub times-moved : (x : ℕ) (xs ys : List Event) → IsPermutation xs ys → times x (map sequence_of ys) ≡ times x (map sequence_of xs)
times-moved x xs ys moved = sum_by-IsPermutation (λ (y : ℕ). cond (eqb y x) 1 0) (map sequence_of xs) (map sequence_of ys)
    (IsPermutation-map sequence_of xs ys moved)

-- the events of a handle, the newest first, are its listing
pub listing : (es rows sorted : List Event) (process base handle : ℕ) → HaveOwnSequences es → base ≡ base_of handle
    → rows ≡ filter (is_of_handle process base) es
    → IsPermutation rows sorted → IsNewestFirst sorted → IsListing (Contains es) process handle sorted
listing es rows sorted process base handle own base_is is moved first =
    let once : (x : ℕ) → times x (map sequence_of sorted) ≤ 1 = λ x.
    (let few = fewer (is_of_handle process base) x es in
    let here : times x (map sequence_of rows) ≡ times x (map sequence_of (filter (is_of_handle process base) es)) = ap
    (λ (l : List Event). times x (map sequence_of l)) is in
    omega (arith, few, here, times-moved x rows sorted moved, times_from_own es own x)) in
    record {
      rising = strictly sorted first (own_from_times sorted once);
      members = λ e. (
        λ h.
            let k = rw is at (Contains-permutation sorted rows e (IsPermutation-sym rows sorted moved) h) in
            let from = Contains-from_filter (is_of_handle process base) es e k in
            (from.0, rw (← base_is) ((of_handle process base e).0 from.1)),
        λ h. Contains-permutation rows sorted e moved
            (rw is (Contains-filter (is_of_handle process base) es e h.0 ((of_handle process base e).1 (rw base_is h.1)))),
      );
    }
