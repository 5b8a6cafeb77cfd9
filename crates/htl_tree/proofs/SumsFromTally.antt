-- Sums over a tree follow from its tally: the tree is the one that its rows build, and so is any list of rows with that tally.
use Rattle.std.proofs.Common.{◌≡◌, ℕ, ◌+◌, ◌≤◌, List, [], ◌∷◌, ◌++◌, length, Option, Some}
use Rattle.std.proofs.Common.{None, true, false, cond, unwrap_or, refl, sym, ◌∙◌, ap, subst, arith}
use Rattle.std.specs.List.{sum_by}
use Rattle.std.specs.Ordering.{is_eq, eq_by_cmp}
use Rattle.std.specs.declared.cmp.Ordering.TheVariants.{Less, Equal, Greater}
use Rattle.std.specs.FinMap.Entries.{find, put, find-put, is_sorted-put}
use Rattle.std.proofs.lemmas.List.Sums.{sum_by-cons, sum_by-append}
use Rattle.htl_event.specs.declared.slot.Slot.{Slot}
use Rattle.htl_event.specs.declared.slot.Count.{Count}
use Rattle.htl_event.specs.Tallies.{zero_count, plus_count, total_of, IsPositive}
use Rattle.htl_sorted.specs.Entries.{IsSorted, Each}
use Rattle.htl_lemmas.proofs.Tests.{both_left, both_right}
use Rattle.htl_sorted.proofs.Finds.{find_below, below_tied, each_put, each_found, sum_by-put, all_keys_from_found, key_found}
use Rattle.htl_tree.specs.Trees.{Tree, key_cmp, count_at, total_count, IsTree, AllShort, IsSumTally}
use Rattle.htl_tree.specs.Rows.{sum_at}
use Rattle.htl_tree.proofs.CopiesAndSums.{zero_right, zero_left}
use Rattle.htl_tree.proofs.TreesAsLists.{key_total, key_same, canonical_trees}

abbrev Row : Type 0
Row = (List ℕ × Slot) × Count

-- the tree that rows build
abbrev built : List Row → Tree
built [] = []
built (x ∷ xs) = put key_cmp x.0 (plus_count x.1 (count_at (built xs) x.0.1 x.0.0)) (built xs)

count_built : (xs : List Row) (slot : Slot) (stack : List ℕ) → count_at (built xs) slot stack ≡ sum_at xs slot stack
count_built [] slot stack = refl
count_built (x ∷ xs) slot stack =
    let v : Count = plus_count x.1 (count_at (built xs) x.0.1 x.0.0) in
    ap (λ (o : Option Count). unwrap_or o zero_count) (find-put key_cmp key_total (stack, slot) x.0 v (built xs))
    ∙ (elim (key_cmp (stack, slot) x.0) as (λ r. key_cmp (stack, slot) x.0 ≡ r
    → unwrap_or (cond (is_eq r) (Some v) (find key_cmp (stack, slot) (built xs))) zero_count
    ≡ cond (is_eq r) (plus_count x.1 (sum_at xs slot stack)) (sum_at xs slot stack)) [
      | Less ↦ λ c. count_built xs slot stack
      | Equal ↦ λ c.
          let same = key_same (stack, slot) x.0 c in
          let there : count_at (built xs) x.0.1 x.0.0 ≡ count_at (built xs) slot stack =
          ap (λ (k : List ℕ × Slot). count_at (built xs) k.1 k.0) (sym same) in
          ap (λ d. plus_count x.1 d) (there ∙ count_built xs slot stack)
      | Greater ↦ λ c. count_built xs slot stack
    ]) refl

sorted_built : (xs : List Row) → IsSorted key_cmp (built xs)
sorted_built [] = tt
sorted_built (x ∷ xs) = is_sorted-put key_cmp key_total x.0 (plus_count x.1 (count_at (built xs) x.0.1 x.0.0)) (built xs)
    (sorted_built xs)

plus_positive : (c d : Count) → IsPositive c → IsPositive (plus_count c d)
plus_positive c d h = omega arith

positive_built : (xs : List Row) → Each IsPositive xs → Each IsPositive (built xs)
positive_built [] h = tt
positive_built (x ∷ xs) h = each_put key_cmp IsPositive x.0 _ (built xs) (plus_positive x.1 (count_at (built xs) x.0.1 x.0.0) h.0)
    (positive_built xs h.1)

-- the tree with a tally is the one that rows of that tally build
pub is_built : (t : Tree) → IsTree t → (xs : List Row) → Each IsPositive xs
    → ((slot : Slot) (stack : List ℕ) → count_at t slot stack ≡ sum_at xs slot stack) → t ≡ built xs
is_built t h xs p same = canonical_trees t (built xs) h.ordered h.positive (sorted_built xs) (positive_built xs p)
    (λ slot stack. same slot stack ∙ sym (count_built xs slot stack))

-- counts can be added up in either grouping
pub plus_assoc : (c d e : Count) → plus_count (plus_count c d) e ≡ plus_count c (plus_count d e)
plus_assoc c d e =
    let p : (c.plus + d.plus) + e.plus ≡ c.plus + (d.plus + e.plus) = omega arith in
    let m : (c.minus + d.minus) + e.minus ≡ c.minus + (d.minus + e.minus) = omega arith in
    λ i. record { plus = p i; minus = m i }

-- what two lists of rows count together is the sum of what each counts
pub sum_at-append : (xs ys : List Row) (slot : Slot) (stack : List ℕ)
    → sum_at (xs ++ ys) slot stack ≡ plus_count (sum_at xs slot stack) (sum_at ys slot stack)
sum_at-append [] ys slot stack = zero_left (sum_at ys slot stack)
sum_at-append (x ∷ xs) ys slot stack =
    elim (eq_by_cmp key_cmp (stack, slot) x.0)
    as (λ b. cond b (plus_count x.1 (sum_at (xs ++ ys) slot stack)) (sum_at (xs ++ ys) slot stack)
    ≡ plus_count (cond b (plus_count x.1 (sum_at xs slot stack)) (sum_at xs slot stack)) (sum_at ys slot stack)) [
      | true ↦ ap (λ d. plus_count x.1 d) (sum_at-append xs ys slot stack)
          ∙ sym (plus_assoc x.1 (sum_at xs slot stack) (sum_at ys slot stack))
      | false ↦ sum_at-append xs ys slot stack
    ]

-- a tree has each key once
pub sum_at_tree : (t : Tree) → IsSorted key_cmp t → (slot : Slot) (stack : List ℕ) → sum_at t slot stack ≡ count_at t slot stack
sum_at_tree [] s slot stack = refl
sum_at_tree (x ∷ xs) s slot stack =
    elim (key_cmp (stack, slot) x.0) as (λ r. key_cmp (stack, slot) x.0 ≡ r → cond (is_eq r) (plus_count x.1 (sum_at xs slot stack))
    (sum_at xs slot stack) ≡ unwrap_or (cond (is_eq r) (Some x.1) (find key_cmp (stack, slot) xs)) zero_count) [
      | Less ↦ λ c. sum_at_tree xs (both_right _ _ s) slot stack
      | Equal ↦ λ c.
          let none : find key_cmp (stack, slot) xs ≡ None =
          find_below key_cmp key_total (stack, slot) xs (below_tied key_cmp key_total (stack, slot) x.0 xs c (both_left _ _ s)) in
          let rest : sum_at xs slot stack ≡ zero_count = sum_at_tree xs (both_right _ _ s) slot stack
          ∙ ap (λ (o : Option Count). unwrap_or o zero_count) none in
          ap (λ d. plus_count x.1 d) rest ∙ sym (zero_right x.1)
      | Greater ↦ λ c. sum_at_tree xs (both_right _ _ s) slot stack
    ] refl

-- what holds of each value of two lists holds of each value of both together
pub each-append : (P : Count → Type 0) (xs ys : List Row) → Each P xs → Each P ys → Each P (xs ++ ys)
each-append P [] ys g h = h
each-append P (x ∷ xs) ys g h = (g.0, each-append P xs ys g.1 h)

-- sums of a weight that counts put together have put together
module _ (weight : List ℕ × Slot → Count → ℕ) (zero : (k : List ℕ × Slot) → weight k zero_count ≡ 0)
    (adds : (k : List ℕ × Slot) (c d : Count) → weight k (plus_count c d) ≡ weight k c + weight k d) where
  -- the sum of the weights of rows
  abbrev pub weigh : List Row → ℕ
  weigh xs = sum_by (λ (row : Row). weight row.0 row.1) xs

  weigh_built : (xs : List Row) → weigh (built xs) ≡ weigh xs
  weigh_built [] = refl
  weigh_built (x ∷ xs) =
      let old : Count = count_at (built xs) x.0.1 x.0.0 in
      let put_in : weigh (built (x ∷ xs)) + weight x.0 old ≡ weigh (built xs) + weight x.0 (plus_count x.1 old) =
      sum_by-put key_cmp key_total key_same weight zero_count zero x.0 (plus_count x.1 old) (built xs) (sorted_built xs) in
      let both : weight x.0 (plus_count x.1 old) ≡ weight x.0 x.1 + weight x.0 old = adds x.0 x.1 old in
      let rest : weigh (built xs) ≡ weigh xs = weigh_built xs in
      let whole : weigh (x ∷ xs) ≡ weight x.0 x.1 + weigh xs = sum_by-cons (λ (row : Row). weight row.0 row.1) x xs in
      omega (arith, put_in, both, rest, whole)

  -- where a tree and rows count the same, they weigh the same
  pub weigh_rows : (t : Tree) → IsTree t → (xs : List Row) → Each IsPositive xs
      → ((slot : Slot) (stack : List ℕ) → count_at t slot stack ≡ sum_at xs slot stack) → weigh t ≡ weigh xs
  weigh_rows t h xs p same = ap weigh (is_built t h xs p same) ∙ weigh_built xs

-- where one tree counts what another and rows count together, its total is the sum of their totals
pub total_with : (s t : Tree) (xs : List Row) → IsTree s → IsTree t → Each IsPositive xs
    → ((slot : Slot) (stack : List ℕ) → count_at s slot stack ≡ plus_count (count_at t slot stack) (sum_at xs slot stack))
    → total_count s ≡ total_count t + total_count xs
total_with s t xs f g p counts =
    weigh_rows (λ k c. total_of c) (λ k. refl) (λ k c d. omega arith) s f (t ++ xs) (each-append IsPositive t xs g.positive p)
    (λ slot stack. counts slot stack
    ∙ ap (λ d. plus_count d (sum_at xs slot stack)) (sym (sum_at_tree t g.ordered slot stack)) ∙ sym (sum_at-append t xs slot stack))
    ∙ sum_by-append (λ (row : Row). total_of row.1) t xs

-- the total of a sum is the sum of the totals
pub total_sum : (s t u : Tree) → IsTree s → IsTree t → IsTree u → IsSumTally s t u → total_count s ≡ total_count t + total_count u
total_sum s t u f g h sum = total_with s t u f g h.positive (λ slot stack. sum slot stack
    ∙ ap (plus_count (count_at t slot stack)) (sym (sum_at_tree u h.ordered slot stack)))

-- a sum has no stack that neither side has
pub sum_short : (s t u : Tree) → IsSorted key_cmp s → Each IsPositive s → IsTree t → IsTree u → IsSumTally s t u → AllShort s
sum_short s t u sorted positive g h sum =
    all_keys_from_found key_cmp key_total (λ (k : List ℕ × Slot). length k.0 ≤ 64) s sorted (λ k v found.
    let here : count_at s k.1 k.0 ≡ v = ap (λ (o : Option Count). unwrap_or o zero_count) found in
    let some : IsPositive v = each_found key_cmp IsPositive k v s positive found in
    let is : v ≡ plus_count (count_at t k.1 k.0) (count_at u k.1 k.0) = sym here ∙ sum k.1 k.0 in
    of k (find key_cmp k t) refl (find key_cmp k u) refl (subst IsPositive is some))
  where
    of : (k : List ℕ × Slot) (o : Option Count) → find key_cmp k t ≡ o → (p : Option Count) → find key_cmp k u ≡ p
        → IsPositive (plus_count (unwrap_or (find key_cmp k t) zero_count) (unwrap_or (find key_cmp k u) zero_count)) → length k.0 ≤ 64
    of k (Some c) left p right some =
        key_found key_cmp key_total key_same (λ (k : List ℕ × Slot). length k.0 ≤ 64) k c t g.shallow left
    of k None left (Some d) right some =
        key_found key_cmp key_total key_same (λ (k : List ℕ × Slot). length k.0 ≤ 64) k d u h.shallow right
    of k None left None right some =
        let none_left : unwrap_or (find key_cmp k t) zero_count ≡ zero_count = ap (λ (o : Option Count). unwrap_or o zero_count) left in
        let none_right : unwrap_or (find key_cmp k u) zero_count ≡ zero_count =
        ap (λ (o : Option Count). unwrap_or o zero_count) right in
        let never : IsPositive (plus_count zero_count zero_count) = subst (λ d. IsPositive (plus_count zero_count d)) none_right
        (subst (λ c. IsPositive (plus_count c (unwrap_or (find key_cmp k u) zero_count))) none_left some) in
        omega (arith, never)
