-- The latest event and the greatest sequence of a set and one more event follow from those of the set.
use Rattle.std.proofs.Common.{◌≡◌, ℕ, ◌≤◌, false, List, [], ◌∷◌, ◌++◌, Option, Some, None}
use Rattle.std.proofs.Common.{refl, sym, ap, ◌∙◌, inl, inr, ◌⊎◌, arith, subst, Contains, max}
use Rattle.std.specs.Prelude.{◌↔◌}
use Rattle.std.proofs.lemmas.Bool.{cases_Bool, both_ways}
use Rattle.std.proofs.lemmas.List.Elements.{Contains-push, Contains-push_cases, Contains-append_left}
use Rattle.htl_event.specs.Events.{Event}
use Rattle.htl_event.specs.Handles.{LatestIs, IsGreatestSequence}
use Rattle.htl_event.proofs.Unions.{LatestIs-later, IsGreatestSequence-max, union_where}
use Rattle.htl_tables.specs.Latest.{with_event}
use Rattle.htl_event.proofs.EventTests.{opens_or_closes_base}
use Rattle.htl_event.specs.Handles.{IsOf}
use Rattle.htl_tables.specs.Laws.{KeepsLatest, KeepsGreatest}
use Rattle.htl_event.proofs.EventTests.{opens_or_closes_base-decides}

-- the second set's events are those of the first and this one
abbrev pub IsOneMore : (Event → Type 0) → Event → (Event → Type 0) → Type 0
IsOneMore A e C = (x : Event) → C x ↔ (A x ⊎ (e ≡ x))

sequence_same : (e x : Event) → e ≡ x → x.sequence ≤ e.sequence
sequence_same e x is = let same : e.sequence ≡ x.sequence = ap (λ (y : Event). y.sequence) is in omega (arith, same)

module _ (A C : Event → Type 0) (e : Event) (both : IsOneMore A e C) where
  module _ (process base : ℕ) where
    of_others : (old : Option Event) → LatestIs A process base old → opens_or_closes_base process base e ≡ false
        → LatestIs C process base old
    of_others None none f = λ x h k. elim ((both x).0 h) [
      | inl there ↦ none x there k
      | inr new ↦ both_ways (opens_or_closes_base process base x) (ap (opens_or_closes_base process base) (sym new) ∙ f)
          ((opens_or_closes_base-decides process base x).1 k)
    ]
    of_others (Some y) one f = record {
      here = (both y).1 (inl one.here);
      of_handle = one.of_handle;
      greatest = λ x h k. elim ((both x).0 h) [
        | inl there ↦ one.greatest x there k
        | inr new ↦ absurd (both_ways (opens_or_closes_base process base x) (ap (opens_or_closes_base process base) (sym new) ∙ f)
            ((opens_or_closes_base-decides process base x).1 k))
      ];
    }

    -- noted to the latest event of the set, the event makes that of both
    pub LatestIs-with_event : (old : Option Event) → LatestIs A process base old → LatestIs C process base (with_event process base old e)
    LatestIs-with_event old given = elim (cases_Bool (opens_or_closes_base process base e)) [
      | inl t ↦ rw t (LatestIs-later A (λ x. e ≡ x) C both process base old (Some e) given
          (record {
            here = refl;
            of_handle = (opens_or_closes_base-decides process base e).0 t;
            greatest =
                λ x is k. sequence_same e x is;
          }))
      | inr f ↦ rw f (of_others old given f)
    ]

  module _ (P : Event → Type 0) (old : ℕ) (given : IsGreatestSequence (λ x. A x × P x) old) where
    pub greatest_with : P e → IsGreatestSequence (λ x. C x × P x) (max old e.sequence)
    greatest_with p =
        IsGreatestSequence-max (λ x. A x × P x) (λ x. (e ≡ x) × P x) (λ x. C x × P x)
        (union_where A (λ x. e ≡ x) C P both) old e.sequence given
        (record { bound = λ x h. sequence_same e x h.0; reached = inr (e, (refl, p), refl) })

    pub greatest_without : (P e → ⊥) → IsGreatestSequence (λ x. C x × P x) old
    greatest_without is_not = record {
      bound = λ x h. elim ((both x).0 h.0) [
        | inl there ↦ given.bound x (there, h.1)
        | inr new ↦ absurd (is_not (subst P (sym new) h.1))
      ];
      reached = elim given.reached [
        | inl none ↦ inl none
        | inr some ↦ inr (some.0, ((both some.0).1 (inl some.1.0), some.1.1), some.2)
      ];
    }

pushed : (events : List Event) (e : Event) → IsOneMore (Contains events) e (Contains (events ++ e ∷ []))
pushed events e x = (
  Contains-push_cases events e x,
  (λ h. elim h [
    | inl there ↦ Contains-append_left events (e ∷ []) x there
    | inr new ↦ subst (Contains (events ++ e ∷ [])) new (Contains-push events e)
  ]),
)

-- the latest event of a handle, with one more event noted, is that of the list with this event
pub keeps_latest : (events : List Event) (e : Event) → KeepsLatest events e
keeps_latest events e process base old given =
    LatestIs-with_event (Contains events) (Contains (events ++ e ∷ [])) e (pushed events e) process base old given

-- the greatest sequence of a kind and a process rises to that of one more such event, and else stays
pub keeps_greatest : (events : List Event) (e : Event) → KeepsGreatest events e
keeps_greatest events e = record {
  noted = λ kind process old given is. greatest_with (Contains events) (Contains (events ++ e ∷ [])) e (pushed events e)
      (IsOf kind process) old given is;
  others = λ kind process old given is_not. greatest_without (Contains events) (Contains (events ++ e ∷ [])) e (pushed events e)
      (IsOf kind process) old given is_not;
}
