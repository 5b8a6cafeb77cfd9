-- The latest event and the greatest sequence over lists put together are the later and the greater of theirs.
use Rattle.std.proofs.Common.{◌≡◌, ℕ, List, ◌++◌, Option, Bool, true, false, cond, refl, inl, inr, arith}
use Rattle.std.specs.Prelude.{Contains, max}
use Rattle.std.specs.Ordering.{nat_cmp, ord_max, is_lt}
use Rattle.std.specs.declared.cmp.Ordering.TheVariants.{Equal, Greater}
use Rattle.std.proofs.lemmas.Bool.{cases_lt, lt-ltb, le-ltb}
use Rattle.std.proofs.lemmas.List.Elements.{Contains-append_cases, Contains-append_left, Contains-append_right}
use Rattle.htl_event.specs.Events.{Event}
use Rattle.htl_event.specs.Handles.{LatestIs, later, IsGreatestSequence}
use Rattle.htl_event.specs.Laws.{IsUnion}
use Rattle.htl_event.proofs.Unions.{LatestIs-later, IsGreatestSequence-max, union_where}

-- two lists put together have the events of both
pub append_is_union : (xs ys : List Event) → IsUnion xs ys (xs ++ ys)
append_is_union xs ys e = (
  Contains-append_cases xs ys e,
  λ h.
      elim h [ inl l ↦ Contains-append_left xs ys e l | inr r ↦ Contains-append_right xs ys e r ],
)

-- in whichever order they are put together
pub turned_union : (xs ys : List Event) → IsUnion xs ys (ys ++ xs)
turned_union xs ys e = (
  λ h. elim (Contains-append_cases ys xs e h) [ inl l ↦ inr l | inr r ↦ inl r ],
  λ h. elim h [ inl l ↦ Contains-append_right ys xs e l | inr r ↦ Contains-append_left ys xs e r ],
)

-- the latest event of both is the later of the two
pub latest_append : (xs ys : List Event) (process base : ℕ) (a b : Option Event) → LatestIs (Contains xs) process base a
    → LatestIs (Contains ys) process base b
    → LatestIs (Contains (xs ++ ys)) process base (later a b)
latest_append xs ys = LatestIs-later (Contains xs) (Contains ys) (Contains (xs ++ ys)) (append_is_union xs ys)

-- the greatest sequence of both is the greater of the two
pub greatest_append : (P : Event → Type 0) (xs ys : List Event) (a b : ℕ) → IsGreatestSequence (λ e. Contains xs e × P e) a
    → IsGreatestSequence (λ e. Contains ys e × P e) b
    → IsGreatestSequence (λ e. Contains (xs ++ ys) e × P e) (max a b)
greatest_append P xs ys = IsGreatestSequence-max _ _ _
    (union_where (Contains xs) (Contains ys) (Contains (xs ++ ys)) P (append_is_union xs ys))

not_less : (tie : Bool) → is_lt (cond tie Equal Greater) ≡ false
not_less true = refl
not_less false = refl

-- `max` of two numbers by `cmp` is their maximum
pub nat_max : (a b : ℕ) → ord_max nat_cmp a b ≡ max a b
nat_max a b = elim (cases_lt b a) [ inl lt ↦ rw (lt-ltb b a lt) (omega arith) | inr le ↦ rw (le-ltb b a le, not_less _) (omega arith) ]
