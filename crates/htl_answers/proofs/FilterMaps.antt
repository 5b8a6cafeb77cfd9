-- The optional rows of elements, put in a list, have the order of the elements, and one element more adds its row.
use Rattle.std.proofs.Common.{◌≡◌, ℕ, ◌+◌, ◌<◌, List, [], ◌∷◌, ◌++◌, length, take, get_or, Option, Some, None, refl, sym, ap, ◌∙◌}
use Rattle.std.proofs.Common.{append-nil, append_assoc, inl, inr}
use Rattle.std.proofs.lemmas.List.{take_more}
use Rattle.std.proofs.lemmas.List.Elements.{filter_map-append}
use Rattle.std.specs.Prelude.{Contains}
use Rattle.std.specs.List.{filter_map, cons_option, flat_map}
use Rattle.htl_tables.proofs.FlatPlaces.{flat_map-take}
use Rattle.htl_event.specs.Members.{IsRising}
use Rattle.htl_event.proofs.Members.{Contains-here, Contains-there, Contains-cases, Contains-nil, at_member, each_member}

after_option : {Y : Type 0} (o : Option Y) (ys : List Y) (y : Y) → Contains ys y → Contains (cons_option o ys) y
after_option None ys y h = h
after_option (Some a) ys y h = Contains-there a ys y h

-- the row of a member is a member
pub Contains-filter_map : {X Y : Type 0} (f : X → Option Y) (xs : List X) (x : X) (y : Y) → Contains xs x → f x ≡ Some y
    → Contains (filter_map f xs) y
Contains-filter_map f [] x y h e = absurd (Contains-nil x h)
Contains-filter_map f (z ∷ xs) x y h e =
    elim (Contains-cases z xs x h) [
      | inl is ↦ rw (ap f is ∙ e) (Contains-here y (filter_map f xs))
      | inr there ↦ after_option (f z) (filter_map f xs) y (Contains-filter_map f xs x y there e)
    ]

abbrev IsFrom : {X Y : Type 0} → (X → Option Y) → List X → Y → Type 0
IsFrom {X} f xs y = (x : X) × Contains xs x × (f x ≡ Some y)

-- a member is the row of a member
pub Contains-from_filter_map : {X Y : Type 0} (f : X → Option Y) (xs : List X) (y : Y) → Contains (filter_map f xs) y → IsFrom f xs y
Contains-from_filter_map f [] y h = absurd (Contains-nil y h)
Contains-from_filter_map {X} {Y} f (z ∷ xs) y h = go (Contains-from_filter_map f xs y) (f z) refl h
  where
    later : IsFrom f xs y → IsFrom f (z ∷ xs) y
    later from = (from.0, Contains-there z xs from.0 from.1, from.2)

    go : (Contains (filter_map f xs) y → IsFrom f xs y) → (o : Option Y) → f z ≡ o → Contains (cons_option o (filter_map f xs)) y
        → IsFrom f (z ∷ xs) y
    go rest None at h = later (rest h)
    go rest (Some a) at h = elim (Contains-cases a (filter_map f xs) y h) [
      | inl is ↦ (z, Contains-here z xs, at ∙ ap (λ (b : Y). Some b) is)
      | inr there ↦ later (rest there)
    ]

module _ {X Y : Type 0} (before : X → X → Type 0) (after : Y → Y → Type 0) (f : X → Option Y)
    (into : (x z : X) (y w : Y) → before x z → f x ≡ Some y → f z ≡ Some w → after y w) where
  -- where the rows of two elements in order are in order, the rows of a rising list rise
  pub IsRising-filter_map : (xs : List X) → IsRising before xs → IsRising after (filter_map f xs)
  IsRising-filter_map [] rising = tt
  IsRising-filter_map (z ∷ xs) rising = go (f z) refl (IsRising-filter_map xs rising.1)
    where
      go : (o : Option Y) → f z ≡ o → IsRising after (filter_map f xs) → IsRising after (cons_option o (filter_map f xs))
      go None at rest = rest
      go (Some a) at rest = (
        each_member (after a) (filter_map f xs)
            (λ y h. (let from = Contains-from_filter_map f xs y h in into z from.0 a y
            (at_member (before z) xs from.0 rising.0 from.1) at from.2)),
        rest,
      )

-- ---- one element more

none_of : {Y : Type 0} (o : Option Y) → ((y : Y) → o ≡ Some y → ⊥) → o ≡ None
none_of None h = refl
none_of (Some y) h = absurd (h y refl)

-- one more element with a row adds that row
pub one_row_more : {X Y : Type 0} (f : X → Option Y) (xs : List X) (x : X) (y : Y) → f x ≡ Some y
    → filter_map f (xs ++ x ∷ []) ≡ filter_map f xs ++ y ∷ []
one_row_more f xs x y e = filter_map-append f xs (x ∷ []) ∙ ap (λ o. filter_map f xs ++ cons_option o []) e

-- one more element without a row adds nothing
pub no_row_more : {X Y : Type 0} (f : X → Option Y) (xs : List X) (x : X) → ((y : Y) → f x ≡ Some y → ⊥)
    → filter_map f (xs ++ x ∷ []) ≡ filter_map f xs
no_row_more f xs x none = filter_map-append f xs (x ∷ []) ∙ ap (λ o. filter_map f xs ++ cons_option o []) (none_of (f x) none)
    ∙ append-nil (filter_map f xs)

-- what the next element gives is added to what the elements so far gave
pub rows_more : {X Y : Type 0} (f : X → Option Y) (xs : List X) (i : ℕ) (x : X) → i < length xs → x ≡ get_or xs i x
    → (old so_far new : List Y) → so_far ≡ old ++ filter_map f (take i xs) → new ≡ so_far ++ filter_map f (x ∷ [])
    → new ≡ old ++ filter_map f (take (i + 1) xs)
rows_more f xs i x lt is old so_far new kept more =
    let longer = take_more xs i x lt ∙ ap (λ y. take i xs ++ y ∷ []) (sym is) in
    let both = ap (filter_map f) longer ∙ filter_map-append f (take i xs) (x ∷ []) in
    more ∙ ap (λ ys. ys ++ filter_map f (x ∷ [])) kept ∙ append_assoc old (filter_map f (take i xs)) (filter_map f (x ∷ []))
    ∙ ap (λ ys. old ++ ys) (sym both)

-- what the elements of the next list give is added to what those of the lists so far gave
pub rows_of_lists_more : {Z X Y : Type 0} (f : X → Option Y) (of : Z → List X) (lists : List Z) (i : ℕ) (z : Z) → i < length lists
    → z ≡ get_or lists i z → (so_far new : List Y) (xs : List X) → xs ≡ of z → so_far ≡ filter_map f (flat_map of (take i lists))
    → new ≡ so_far ++ filter_map f xs → new ≡ filter_map f (flat_map of (take (i + 1) lists))
rows_of_lists_more f of lists i z lt is so_far new xs are kept more =
    more ∙ ap (λ ys. ys ++ filter_map f xs) kept ∙ ap (λ ys. filter_map f (flat_map of (take i lists)) ++ filter_map f ys) are
    ∙ sym (ap (filter_map f) (flat_map-take of lists i z lt is) ∙ filter_map-append f (flat_map of (take i lists)) (of z))
