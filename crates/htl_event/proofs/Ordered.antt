-- The members of a set can be put in order, each once, and a test says that the list rises.
use Rattle.std.proofs.Common.{◌≡◌, Bool, true, List, [], ◌∷◌, sym, subst, inl, inr, ◌&&◌}
use Rattle.std.specs.Prelude.{Contains, ◌↔◌, filter, map, if◌then◌else◌}
use Rattle.std.specs.List.{AllByRecursion, list_all, list_any}
use Rattle.std.proofs.lemmas.Bool.{and_parts, or_cases, cases_Bool}
use Rattle.htl_event.specs.Members.{IsRising, Lists}
use Rattle.htl_event.proofs.Members.{Contains-there, Contains-cases, Contains-cons, Contains-filter}
use Rattle.htl_event.proofs.Members.{Contains-from_filter, Contains-map, Contains-from_map}

-- ---- in order

-- the list with one more element, before the first that it comes before
abbrev pub inserted : {X : Type 0} → (X → X → Bool) → X → List X → List X
inserted first x [] = x ∷ []
inserted first x (y ∷ ys) = if first x y then x ∷ y ∷ ys else y ∷ inserted first x ys

-- the elements of a list, put in order one by one
abbrev pub ordered : {X : Type 0} → (X → X → Bool) → List X → List X
ordered first [] = []
ordered first (x ∷ xs) = inserted first x (ordered first xs)

-- what goes into a tail goes into the list
Contains-after : {X : Type 0} (x : X) (xs ys : List X) (z : X) → (Contains xs z → Contains ys z) → Contains (x ∷ xs) z
    → Contains (x ∷ ys) z
Contains-after x xs ys z into h =
    elim (Contains-cases x xs z h) [ inl here ↦ Contains-cons x ys z (inl here) | inr there ↦ Contains-there x ys z (into there) ]

Contains-swapped : {X : Type 0} (x y : X) (xs : List X) (z : X) → Contains (x ∷ y ∷ xs) z → Contains (y ∷ x ∷ xs) z
Contains-swapped x y xs z h =
    elim (Contains-cases x (y ∷ xs) z h) [
      | inl here ↦ Contains-there y (x ∷ xs) z (Contains-cons x xs z (inl here))
      | inr there ↦ Contains-after y xs (x ∷ xs) z (Contains-there x xs z) there
    ]

Contains-inserted : {X : Type 0} (first : X → X → Bool) (x : X) (ys : List X) (z : X)
    → Contains (inserted first x ys) z ↔ Contains (x ∷ ys) z
Contains-inserted first x [] z = (λ h. h, λ h. h)
Contains-inserted first x (y ∷ ys) z =
    let rest = Contains-inserted first x ys z in
    elim (cases_Bool (first x y)) [
      | inl goes_first ↦ rw goes_first (λ h. h, λ h. h)
      | inr goes_on ↦ rw goes_on (
        λ h. Contains-swapped y x ys z (Contains-after y (inserted first x ys) (x ∷ ys) z rest.0 h),
        λ h. Contains-after y (x ∷ ys) (inserted first x ys) z rest.1 (Contains-swapped x y ys z h),
      )
    ]

Contains-ordered : {X : Type 0} (first : X → X → Bool) (xs : List X) (z : X) → Contains (ordered first xs) z ↔ Contains xs z
Contains-ordered first [] z = (λ h. h, λ h. h)
Contains-ordered first (x ∷ xs) z =
    let into = Contains-inserted first x (ordered first xs) z in
    let rest = Contains-ordered first xs z in
    (λ h. Contains-after x (ordered first xs) xs z rest.0 (into.0 h), λ h. into.1 (Contains-after x xs (ordered first xs) z rest.1 h))

-- ---- rising

-- each element of the list comes before the next
abbrev pub is_rising : {X : Type 0} → (X → X → Bool) → List X → Bool
is_rising first [] = true
is_rising first (x ∷ xs) = list_all (first x) xs && is_rising first xs

module _ {X : Type 0} (first : X → X → Bool) (before : X → X → Type 0) (says : (x y : X) → first x y ≡ true → before x y) where
  before_all : (x : X) (xs : List X) → list_all (first x) xs ≡ true → AllByRecursion (before x) xs
  before_all x [] e = tt
  before_all x (y ∷ ys) e = let parts = and_parts _ _ e in (says x y parts.0, before_all x ys parts.1)

  IsRising-is_rising : (xs : List X) → is_rising first xs ≡ true → IsRising before xs
  IsRising-is_rising [] e = tt
  IsRising-is_rising (x ∷ xs) e = let parts = and_parts _ _ e in (before_all x xs parts.0, IsRising-is_rising xs parts.1)

  -- a list whose members have a property, and no others do, names them once it is put in order
  pub Lists-ordered : (P : X → Type 0) (xs : List X) → ((x : X) → Contains xs x ↔ P x) → is_rising first (ordered first xs) ≡ true
      → Lists before P (ordered first xs)
  Lists-ordered P xs members rises = record {
    rising = IsRising-is_rising (ordered first xs) rises;
    members = λ x. (λ h. (members x).0 ((Contains-ordered first xs x).0 h), λ p. (Contains-ordered first xs x).1 ((members x).1 p));
  }

  -- so do those of its elements that pass a test
  pub Lists-filter : (test : X → Bool) (P : X → Type 0) (xs : List X) → ((x : X) → (Contains xs x × (test x ≡ true)) ↔ P x)
      → is_rising first (ordered first (filter test xs)) ≡ true → Lists before P (ordered first (filter test xs))
  Lists-filter test P xs members = Lists-ordered P (filter test xs) (λ x. (
    λ h. (members x).0 (Contains-from_filter test xs x h),
    λ p. (let h = (members x).1 p in Contains-filter test xs x h.0 h.1),
  ))

-- ---- each once

abbrev pub distinct : {X : Type 0} → (X → X → Bool) → List X → List X
distinct same [] = []
distinct same (x ∷ xs) = if list_any (same x) xs then distinct same xs else x ∷ distinct same xs

-- the rows of the keys that pass a test
abbrev pub rows_where : {K X : Type 0} → (K → K → Bool) → (K → Bool) → (K → X) → List K → List X
rows_where same test row keys = map row (distinct same (filter test keys))

module _ {K : Type 0} (same : K → K → Bool) (exact : (x y : K) → same x y ≡ true → x ≡ y) where
  Contains-list_any : (x : K) (xs : List K) → list_any (same x) xs ≡ true → Contains xs x
  Contains-list_any x [] e = absurd cc
  Contains-list_any x (y ∷ ys) e =
      elim (or_cases (same x y) (list_any (same x) ys) e) [
        | inl here ↦ Contains-cons y ys x (inl (sym (exact x y here)))
        | inr there ↦ Contains-there y ys x (Contains-list_any x ys there)
      ]

  pub Contains-distinct : (xs : List K) (z : K) → Contains (distinct same xs) z ↔ Contains xs z
  Contains-distinct [] z = (λ h. h, λ h. h)
  Contains-distinct (x ∷ xs) z =
      let rest = Contains-distinct xs z in
      elim (cases_Bool (list_any (same x) xs)) [
        | inl again ↦ rw again (
          λ h. Contains-there x xs z (rest.0 h),
          λ h. rest.1 (elim (Contains-cases x xs z h) [
            | inl here ↦ subst (Contains xs) here (Contains-list_any x xs again)
            | inr there ↦ there
          ]),
        )
        | inr new ↦ rw new (Contains-after x (distinct same xs) xs z rest.0, Contains-after x xs (distinct same xs) z rest.1)
      ]

  -- they are the rows with a property, where a key that passes gives one, and each has such a key
  pub Contains-rows_where : {X : Type 0} (test : K → Bool) (row : K → X) (P : X → Type 0) (keys : List K)
      → ((k : K) → test k ≡ true → P (row k)) → ((x : X) → P x → (k : K) × Contains keys k × (test k ≡ true) × (row k ≡ x))
      → (x : X) → Contains (rows_where same test row keys) x ↔ P x
  Contains-rows_where test row P keys gives has_key x = (
    λ h.
        let k = Contains-from_map row (distinct same (filter test keys)) x h in
        let passes = Contains-from_filter test keys k.0 ((Contains-distinct (filter test keys) k.0).0 k.1) in
        subst P k.2 (gives k.0 passes.1),
    λ p.
        let k = has_key x p in
        let once = (Contains-distinct (filter test keys) k.0).1 (Contains-filter test keys k.0 k.1 k.2) in
        subst (Contains (rows_where same test row keys)) k.3 (Contains-map row (distinct same (filter test keys)) k.0 once),
  )
