-- The latest event and the greatest sequence over a union are the later and the greater of both.
use Rattle.std.proofs.Common.{ℕ, List, Option, Some, None, arith, inl, inr, ◌⊎◌}
use Rattle.std.specs.Prelude.{Contains, ◌↔◌, max}
use Rattle.std.proofs.lemmas.Bool.{cases_lt, lt-ltb, le-ltb}
use Rattle.htl_event.specs.declared.kind.Kind.TheVariants.{Snapshot, Exited}
use Rattle.htl_event.specs.Events.{Event}
use Rattle.htl_event.specs.Handles.{LatestIs, later, IsGreatestSequence, IsOf}
use Rattle.htl_event.specs.Laws.{IsUnion, LaterOfBoth}

-- sets may have events in common
pub LatestIs-later : (A B C : Event → Type 0) → ((e : Event) → C e ↔ (A e ⊎ B e)) → (process base : ℕ) (a b : Option Event)
    → LatestIs A process base a → LatestIs B process base b → LatestIs C process base (later a b)
LatestIs-later A B C both process base None None p q = λ x h k. elim ((both x).0 h) [ inl l ↦ p x l k | inr r ↦ q x r k ]
LatestIs-later A B C both process base None (Some y) p q = record {
  here = (both y).1 (inr q.here);
  of_handle = q.of_handle;
  greatest = λ x h k. elim ((both x).0 h) [ inl l ↦ absurd (p x l k) | inr r ↦ q.greatest x r k ];
}
LatestIs-later A B C both process base (Some x) None p q = record {
  here = (both x).1 (inl p.here);
  of_handle = p.of_handle;
  greatest = λ z h k. elim ((both z).0 h) [ inl l ↦ p.greatest z l k | inr r ↦ absurd (q z r k) ];
}
LatestIs-later A B C both process base (Some x) (Some y) p q =
    elim (cases_lt x.sequence y.sequence) [
      | inl lt ↦ rw (lt-ltb x.sequence y.sequence lt) (record {
        here = (both y).1 (inr q.here);
        of_handle = q.of_handle;
        greatest = λ z h k. elim ((both z).0 h) [ inl l ↦ (let le = p.greatest z l k in omega (arith, le)) | inr r ↦ q.greatest z r k ];
      })
      | inr ge ↦ rw (le-ltb x.sequence y.sequence ge) (record {
        here = (both x).1 (inl p.here);
        of_handle = p.of_handle;
        greatest = λ z h k. elim ((both z).0 h) [ inl l ↦ p.greatest z l k | inr r ↦ (let le = q.greatest z r k in omega (arith, le)) ];
      })
    ]

-- the greatest sequence of a union is the greater of those of both sets
pub IsGreatestSequence-max : (A B C : Event → Type 0) → ((e : Event) → C e ↔ (A e ⊎ B e)) → (a b : ℕ)
    → IsGreatestSequence A a → IsGreatestSequence B b → IsGreatestSequence C (max a b)
IsGreatestSequence-max A B C both a b p q = record {
  bound = λ x h. elim ((both x).0 h) [
    | inl l ↦ (let le = p.bound x l in omega (arith, le))
    | inr r ↦ (let le = q.bound x r in omega (arith, le))
  ];
  reached = elim (cases_lt a b) [
    | inl lt ↦ elim q.reached [
      | inl none ↦ inl (omega arith)
      | inr some ↦ let is = some.2 in inr (some.0, (both some.0).1 (inr some.1), omega (arith, is))
    ]
    | inr ge ↦ elim p.reached [
      | inl none ↦ inl (omega arith)
      | inr some ↦ let is = some.2 in inr (some.0, (both some.0).1 (inl some.1), omega (arith, is))
    ]
  ];
}

-- those of a union that have one property more
pub union_where : (A B C P : Event → Type 0) → ((e : Event) → C e ↔ (A e ⊎ B e)) → (e : Event) → (C e × P e) ↔ ((A e × P e) ⊎ (B e × P e))
union_where A B C P both e = (
  (λ h. elim ((both e).0 h.0) [ inl l ↦ inl (l, h.1) | inr r ↦ inr (r, h.1) ]),
  (λ h. elim h [ inl l ↦ ((both e).1 (inl l.0), l.1) | inr r ↦ ((both e).1 (inr r.0), r.1) ]),
)

-- over a union of two lists, the latest event is the later and the greatest sequence the greater of theirs
pub later_of_both : (xs ys zs : List Event) → IsUnion xs ys zs → LaterOfBoth xs ys zs
later_of_both xs ys zs union = record {
  latest = LatestIs-later (Contains xs) (Contains ys) (Contains zs) union;
  greatest = IsGreatestSequence-max (Contains xs) (Contains ys) (Contains zs) union;
  mark = λ process. IsGreatestSequence-max _ _ _ (union_where (Contains xs) (Contains ys) (Contains zs) (IsOf Snapshot process) union);
  last_exit = λ process. IsGreatestSequence-max _ _ _ (union_where (Contains xs) (Contains ys) (Contains zs) (IsOf Exited process) union);
}
