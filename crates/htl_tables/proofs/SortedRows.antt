-- What rows in the order of their keys have before and behind one of them, and how they stay in order where one is added or changed.
use Rattle.std.proofs.Common.{◌≡◌, ℕ, List, [], ◌∷◌, ◌++◌, Some, None, ◌&&◌, T, cond, refl, sym, ap, ◌∙◌, subst}
use Rattle.std.specs.Ordering.{is_lt, is_eq, eq_by_cmp}
use Rattle.std.specs.declared.cmp.Ordering.TheVariants.{Less, Greater}
use Rattle.std.specs.FinMap.Entries.{find, find-append, below_all}
use Rattle.std.proofs.lemmas.List.{map_push}
use Rattle.htl_event.specs.Events.{Event}
use Rattle.htl_sorted.specs.Entries.{IsSorted}
use Rattle.htl_sorted.proofs.Places.{turn}
use Rattle.htl_lemmas.proofs.Tests.{both, both_left, both_right, less}
use Rattle.htl_tables.specs.Keys.{key_cmp, key_of, keyed, ByKey}
use Rattle.htl_tables.proofs.KeyOrder.{key_total}

-- the rows are in the order of their keys
abbrev pub Sorted : List Event → Type 0
Sorted rows = IsSorted key_cmp (keyed rows)

-- the key is below all rows
abbrev pub IsBelow : ℕ × ℕ → List Event → Type 0
IsBelow k rows = T (below_all key_cmp k (keyed rows))

is_less : (k j : ℕ × ℕ) → key_cmp k j ≡ Less → T (is_lt (key_cmp k j))
is_less k j e = subst (λ r. T (is_lt r)) (sym e) tt

-- ---- parts of rows in order

below_before : (k : ℕ × ℕ) (xs ys : List Event) → IsBelow k (xs ++ ys) → IsBelow k xs
below_before k [] ys h = tt
below_before k (x ∷ xs) ys h = both _ _ (both_left _ _ h) (below_before k xs ys (both_right _ _ h))

-- a key below all of two lists is below all of the second
pub below_behind : (k : ℕ × ℕ) (xs ys : List Event) → IsBelow k (xs ++ ys) → IsBelow k ys
below_behind k [] ys h = h
below_behind k (x ∷ xs) ys h = below_behind k xs ys (both_right _ _ h)

-- the first of rows in order are in order
pub sorted_before : (xs ys : List Event) → Sorted (xs ++ ys) → Sorted xs
sorted_before [] ys h = tt
sorted_before (x ∷ xs) ys h = both _ _ (below_before (key_of x) xs ys (both_left _ _ h)) (sorted_before xs ys (both_right _ _ h))

-- the last of rows in order are in order
pub sorted_behind : (xs ys : List Event) → Sorted (xs ++ ys) → Sorted ys
sorted_behind [] ys h = h
sorted_behind (x ∷ xs) ys h = sorted_behind xs ys (both_right _ _ h)

-- a key below all rows is below each of them
pub below_one : (k : ℕ × ℕ) (xs : List Event) (z : Event) (ys : List Event) → IsBelow k (xs ++ z ∷ ys) → key_cmp k (key_of z) ≡ Less
below_one k xs z ys h = less _ (both_left _ _ (below_behind k xs (z ∷ ys) h))

-- the key of a row isn't that of a row before it
pub none_before : (xs : List Event) (z : Event) (ys : List Event) → Sorted (xs ++ z ∷ ys) → find key_cmp (key_of z) (keyed xs) ≡ None
none_before [] z ys h = refl
none_before (x ∷ xs) z ys h =
    let lt : key_cmp (key_of x) (key_of z) ≡ Less = below_one (key_of x) xs z ys (both_left _ _ h) in
    let gt : key_cmp (key_of z) (key_of x) ≡ Greater = turn key_total (key_of x) (key_of z) Less lt in
    ap (λ r. cond (is_eq r) (Some x) (find key_cmp (key_of z) (keyed xs))) gt ∙ none_before xs z ys (both_right _ _ h)

-- what is found where one more row stands behind those that lack its key
pub find_last : (k : ℕ × ℕ) (xs : List Event) (z : Event) → find key_cmp (key_of z) (keyed xs) ≡ None
    → find key_cmp k (keyed (xs ++ z ∷ [])) ≡ cond (eq_by_cmp key_cmp k (key_of z)) (Some z) (find key_cmp k (keyed xs))
find_last k xs z none = ap (λ es. find key_cmp k es) (map_push (λ (e : Event). (key_of e, e)) xs z)
    ∙ find-append key_cmp key_total (keyed xs) (key_of z) z k none

-- ---- rows that are added or changed

below_insert : (k : ℕ × ℕ) (xs : List Event) (y z : Event) (ys : List Event) → IsBelow k (xs ++ y ∷ ys) → ByKey y z
    → IsBelow k (xs ++ y ∷ z ∷ ys)
below_insert k [] y z ys h lt =
    let first = both_left _ _ h in
    both _ _ first (both _ _ (is_less k (key_of z) (key_total.trans k (key_of y) (key_of z) (less _ first) lt)) (both_right _ _ h))
below_insert k (x ∷ xs) y z ys h lt = both _ _ (both_left _ _ h) (below_insert k xs y z ys (both_right _ _ h) lt)

-- a row may be put behind one that has a lesser key, where the rows behind have greater ones
pub sorted_insert : (xs : List Event) (y z : Event) (ys : List Event) → Sorted (xs ++ y ∷ ys) → ByKey y z → IsBelow (key_of z) ys
    → Sorted (xs ++ y ∷ z ∷ ys)
sorted_insert [] y z ys h lt below =
    both _ _ (both _ _ (is_less (key_of y) (key_of z) lt) (both_left _ _ h)) (both _ _ below (both_right _ _ h))
sorted_insert (x ∷ xs) y z ys h lt below =
    both _ _ (below_insert (key_of x) xs y z ys (both_left _ _ h) lt) (sorted_insert xs y z ys (both_right _ _ h) lt below)

below_changed : (k : ℕ × ℕ) (xs : List Event) (y z : Event) (ys : List Event) → key_of y ≡ key_of z → IsBelow k (xs ++ y ∷ ys)
    → IsBelow k (xs ++ z ∷ ys)
below_changed k [] y z ys same h = subst (λ j. T (is_lt (key_cmp k j) && below_all key_cmp k (keyed ys))) same h
below_changed k (x ∷ xs) y z ys same h = both _ _ (both_left _ _ h) (below_changed k xs y z ys same (both_right _ _ h))

-- a row may take the place of one that has its key
pub sorted_changed : (xs : List Event) (y z : Event) (ys : List Event) → key_of y ≡ key_of z → Sorted (xs ++ y ∷ ys) → Sorted (xs ++ z ∷ ys)
sorted_changed [] y z ys same h = both _ _ (subst (λ j. IsBelow j ys) same (both_left _ _ h)) (both_right _ _ h)
sorted_changed (x ∷ xs) y z ys same h =
    both _ _ (below_changed (key_of x) xs y z ys same (both_left _ _ h)) (sorted_changed xs y z ys same (both_right _ _ h))
