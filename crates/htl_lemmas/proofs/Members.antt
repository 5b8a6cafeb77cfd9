-- The members of a list with a new head or end, of a filtered, a mapped or a flattened list follow from those of the list.
use Rattle.std.proofs.Common.{◌≡◌, zero, suc, Bool, true, false, List, [], ◌∷◌, ◌++◌, refl, sym, ap, ◌∙◌, subst, arith, inl, inr, ◌⊎◌}
use Rattle.std.specs.Prelude.{Contains, filter, map, ◌≢◌}
use Rattle.std.specs.List.{AllByRecursion, flat_map}
use Rattle.std.proofs.lemmas.Bool.{cases_Bool}
use Rattle.std.proofs.lemmas.List.Elements.{Contains-append_cases, Contains-append_right, Contains-append_left}
use Rattle.std.proofs.lemmas.List.Elements.{All-from_recursion, All-contains, Contains-push}

-- a list contains its head
pub Contains-here : {X : Type 0} (x : X) (xs : List X) → Contains (x ∷ xs) x
Contains-here x xs = (0, omega arith, refl)

-- what a tail contains, the whole list contains
pub Contains-there : {X : Type 0} (x : X) (xs : List X) (y : X) → Contains xs y → Contains (x ∷ xs) y
Contains-there x xs y h = (suc h.0, omega (arith, h.1), h.2)

-- the empty list contains nothing
pub Contains-nil : {X : Type 0} (y : X) → Contains [] y → ⊥
Contains-nil y h = omega (arith, h.1)

-- a member of a list is its head or a member of its tail
pub Contains-cases : {X : Type 0} (x : X) (xs : List X) (y : X) → Contains (x ∷ xs) y → (x ≡ y) ⊎ Contains xs y
Contains-cases x xs y (zero, lt, is) = inl is
Contains-cases x xs y (suc k, lt, is) = inr (k, omega arith, is)

-- the head of a list and each member of its tail are members of the list
pub Contains-cons : {X : Type 0} (x : X) (xs : List X) (y : X) → (x ≡ y) ⊎ Contains xs y → Contains (x ∷ xs) y
Contains-cons x xs y (inl is) = subst (λ z. Contains (x ∷ xs) z) is (Contains-here x xs)
Contains-cons x xs y (inr there) = Contains-there x xs y there

-- what holds of each element holds of a member
pub at_member : {X : Type 0} (P : X → Type 0) (xs : List X) (x : X) → AllByRecursion P xs → Contains xs x → P x
at_member P xs x all h = All-contains P xs x (All-from_recursion P xs all) h

-- what holds of each member holds of each element
pub each_member : {X : Type 0} (P : X → Type 0) (xs : List X) → ((x : X) → Contains xs x → P x) → AllByRecursion P xs
each_member P [] f = tt
each_member P (x ∷ xs) f = (f x (Contains-here x xs), each_member P xs (λ y h. f y (Contains-there x xs y h)))

-- where P implies Q, a list whose elements all have P is one whose elements all have Q
pub AllByRecursion-weaker : {X : Type 0} (P Q : X → Type 0) (xs : List X) → ((x : X) → P x → Q x) → AllByRecursion P xs
    → AllByRecursion Q xs
AllByRecursion-weaker P Q [] f all = tt
AllByRecursion-weaker P Q (x ∷ xs) f all = (f x all.0, AllByRecursion-weaker P Q xs f all.1)

-- ---- two lists together

-- what holds of each element of two lists together holds of each of the first
pub all_left : {X : Type 0} (P : X → Type 0) (xs ys : List X) → AllByRecursion P (xs ++ ys) → AllByRecursion P xs
all_left P [] ys h = tt
all_left P (x ∷ xs) ys h = (h.0, all_left P xs ys h.1)

-- what holds of each element of two lists together holds of each of the second
pub all_right : {X : Type 0} (P : X → Type 0) (xs ys : List X) → AllByRecursion P (xs ++ ys) → AllByRecursion P ys
all_right P [] ys h = h
all_right P (x ∷ xs) ys h = all_right P xs ys h.1

-- what holds of each element of two lists holds of each of both together
pub all_append : {X : Type 0} (P : X → Type 0) (xs ys : List X) → AllByRecursion P xs → AllByRecursion P ys → AllByRecursion P (xs ++ ys)
all_append P [] ys g h = h
all_append P (x ∷ xs) ys g h = (g.0, all_append P xs ys g.1 h)

-- a list with a last element contains it
pub last_member : {X : Type 0} (old new : List X) (x : X) → old ≡ new ++ x ∷ [] → Contains old x
last_member old new x is = subst (λ l. Contains l x) (sym is) (Contains-push new x)

-- what the list without its last element contains, the list contains
pub front_member : {X : Type 0} (old new : List X) (x y : X) → old ≡ new ++ x ∷ [] → Contains new y → Contains old y
front_member old new x y is h = subst (λ l. Contains l y) (sym is) (Contains-append_left new (x ∷ []) y h)

-- ---- filter, map and flat_map

-- a head that passes the test stays at the head of the filtered list
pub filter-pass : {X : Type 0} (p : X → Bool) (x : X) (xs : List X) → p x ≡ true → filter p (x ∷ xs) ≡ x ∷ filter p xs
filter-pass p x xs e = rw e refl

-- a head that fails the test isn't in the filtered list, which is that of the tail
pub filter-skip : {X : Type 0} (p : X → Bool) (x : X) (xs : List X) → p x ≡ false → filter p (x ∷ xs) ≡ filter p xs
filter-skip p x xs e = rw e refl

-- a member that passes the test is in the filtered list
pub Contains-filter : {X : Type 0} (p : X → Bool) (xs : List X) (y : X) → Contains xs y → p y ≡ true → Contains (filter p xs) y
Contains-filter p [] y h e = absurd (Contains-nil y h)
Contains-filter p (x ∷ xs) y h e =
    elim (Contains-cases x xs y h) [
      | inl is ↦ let e' : p x ≡ true = ap p is ∙ e in
          rw (filter-pass p x xs e') (subst (λ z. Contains (x ∷ filter p xs) z) is (Contains-here x (filter p xs)))
      | inr there ↦ elim (cases_Bool (p x)) [
        | inl holds ↦ rw (filter-pass p x xs holds) (Contains-there x (filter p xs) y (Contains-filter p xs y there e))
        | inr fails ↦ rw (filter-skip p x xs fails) (Contains-filter p xs y there e)
      ]
    ]

-- a member of the filtered list is one of the list, and passes the test
pub Contains-from_filter : {X : Type 0} (p : X → Bool) (xs : List X) (y : X) → Contains (filter p xs) y → Contains xs y × (p y ≡ true)
Contains-from_filter p [] y h = absurd (Contains-nil y h)
Contains-from_filter p (x ∷ xs) y h =
    elim (cases_Bool (p x)) [
      | inl holds ↦ elim (Contains-cases x (filter p xs) y (rw (filter-pass p x xs holds) at h)) [
        | inl is ↦ (subst (λ z. Contains (x ∷ xs) z) is (Contains-here x xs), ap p (sym is) ∙ holds)
        | inr there ↦ let r = Contains-from_filter p xs y there in (Contains-there x xs y r.0, r.1)
      ]
      | inr fails ↦ let r = Contains-from_filter p xs y (rw (filter-skip p x xs fails) at h) in (Contains-there x xs y r.0, r.1)
    ]

-- the value of a member is in the mapped list
pub Contains-map : {X Y : Type 0} (f : X → Y) (xs : List X) (x : X) → Contains xs x → Contains (map f xs) (f x)
Contains-map f [] x h = absurd (Contains-nil x h)
Contains-map f (z ∷ xs) x h =
    elim (Contains-cases z xs x h) [
      | inl is ↦ Contains-cons (f z) (map f xs) (f x) (inl (ap f is))
      | inr there ↦ Contains-there (f z) (map f xs) (f x) (Contains-map f xs x there)
    ]

-- each element of the mapped list is the value of a member
pub Contains-from_map : {X Y : Type 0} (f : X → Y) (xs : List X) (y : Y) → Contains (map f xs) y → (x : X) × Contains xs x × (f x ≡ y)
Contains-from_map f [] y h = absurd (Contains-nil y h)
Contains-from_map f (z ∷ xs) y h =
    elim (Contains-cases (f z) (map f xs) y h) [
      | inl is ↦ (z, Contains-here z xs, is)
      | inr there ↦ let r = Contains-from_map f xs y there in (r.0, Contains-there z xs r.0 r.1, r.2)
    ]

-- what a member's list contains is in the flattened list
pub Contains-flat_map : {X Y : Type 0} (f : X → List Y) (xs : List X) (x : X) (y : Y) → Contains xs x → Contains (f x) y
    → Contains (flat_map f xs) y
Contains-flat_map f [] x y h k = absurd (Contains-nil x h)
Contains-flat_map f (z ∷ xs) x y h k =
    elim (Contains-cases z xs x h) [
      | inl is ↦ Contains-append_left (f z) (flat_map f xs) y (subst (λ w. Contains (f w) y) (sym is) k)
      | inr there ↦ Contains-append_right (f z) (flat_map f xs) y (Contains-flat_map f xs x y there k)
    ]

-- each element of the flattened list is in the list of some member
pub Contains-from_flat_map : {X Y : Type 0} (f : X → List Y) (xs : List X) (y : Y) → Contains (flat_map f xs) y
    → (x : X) × Contains xs x × Contains (f x) y
Contains-from_flat_map f [] y h = absurd (Contains-nil y h)
Contains-from_flat_map f (z ∷ xs) y h =
    elim (Contains-append_cases (f z) (flat_map f xs) y h) [
      | inl here ↦ (z, Contains-here z xs, here)
      | inr there ↦ let r = Contains-from_flat_map f xs y there in (r.0, Contains-there z xs r.0 r.1, r.2)
    ]

-- a list that isn't empty has a member
pub some_member : {X : Type 0} (xs : List X) → xs ≢ [] → (x : X) × Contains xs x
some_member [] some = absurd (some refl)
some_member (x ∷ xs) some = (x, Contains-here x xs)
