-- Of trees as lists, equal tallies have one, and one more count puts one row.
use Rattle.std.proofs.Common.{◌≡◌, ℕ, ◌+◌, ◌≤◌, ◌≢◌, List, [], ◌∷◌, length, Option}
use Rattle.std.proofs.Common.{Some, true, false, cond, unwrap_or, refl, sym, ◌∙◌, ap, arith}
use Rattle.std.specs.Ordering.{eq_by_cmp, is_eq, ordering_then}
use Rattle.std.specs.Cmp.{IsTotalOrder, tied_itself, on_total, then_total, unsigned_Decides}
use Rattle.std.specs.Cmp.Lexicographic.{pointwise_decides}
use Rattle.std.specs.declared.cmp.Ordering.TheVariants.{Less, Equal, Greater}
use Rattle.std.specs.FinMap.Entries.{find, same_entries, is_sorted-put}
use Rattle.std.proofs.lemmas.List.Sums.{sum_by-cons}
use Rattle.htl_event.specs.declared.slot.Slot.{Slot}
use Rattle.htl_event.specs.declared.slot.Sign.{Sign}
use Rattle.htl_event.specs.declared.slot.Sign.TheVariants.{Plus, Minus}
use Rattle.htl_event.specs.declared.slot.Count.{Count}
use Rattle.htl_event.specs.Stacks.{stack_cmp}
use Rattle.htl_event.specs.Tallies.{zero_count, total_of, IsPositive}
use Rattle.htl_sorted.specs.Entries.{IsSorted, Each}
use Rattle.htl_sorted.proofs.Finds.{find_put_same, find_put_other, each_put, sum_by-put, all_keys_put}
use Rattle.htl_event.specs.SlotOrder.{slot_cmp}
use Rattle.htl_event.specs.OrderLaws.{slot_total, slot_same, stack_total, stack_ties}
use Rattle.htl_tree.specs.Trees.{Tree, key_cmp, count_at, add_one, with_one, total_count, IsTree, IsSameTally}
use Rattle.htl_tree.proofs.CountAdded.{add_one_positive}
use Rattle.htl_tree.proofs.Canonical.{found_positive, same_option}

-- the order of keys, by stack and then by slot, is total
pub key_total : IsTotalOrder key_cmp
key_total = then_total (on_total (λ (key : List ℕ × Slot). key.0) stack_total)
    (on_total (λ (key : List ℕ × Slot). key.1) slot_total)

same_stacks : (a b : List ℕ) → stack_cmp a b ≡ Equal → a ≡ b
same_stacks a b e = (pointwise_decides unsigned_Decides a b).0 (stack_ties a b ∙ ap is_eq e)

-- keys that tie are equal
pub key_same : (x y : List ℕ × Slot) → key_cmp x y ≡ Equal → x ≡ y
key_same x y e = (elim (stack_cmp x.0 y.0) as (λ r. stack_cmp x.0 y.0 ≡ r → ordering_then r (slot_cmp x.1 y.1) ≡ Equal → x ≡ y) [
  | Less ↦ λ c is. absurd (cc)
  | Equal ↦ λ c is.
      let stacks = same_stacks x.0 y.0 c in
      let slots = slot_same x.1 y.1 is in
      λ i. (stacks i, slots i)
  | Greater ↦ λ c is. absurd (cc)
]) refl e

-- two sorted trees without zeros that count the same are the same
pub canonical_trees : (t u : Tree) → IsSorted key_cmp t → Each IsPositive t → IsSorted key_cmp u → Each IsPositive u
    → IsSameTally t u → t ≡ u
canonical_trees t u t_sorted t_positive u_sorted u_positive same =
    same_entries key_cmp key_total key_same t u t_sorted u_sorted
    (λ q. same_option _ _ (found_positive key_cmp q t t_positive) (found_positive key_cmp q u u_positive) (sym (same q.1 q.0)))

-- the tree that counts nothing is one
pub nothing_is_tree : IsTree []
nothing_is_tree = record { ordered = tt; positive = tt; shallow = tt }

-- a tree with one more at a stack that isn't too long is a tree
pub with_one_is_tree : (t : Tree) → IsTree t → (slot : Slot) (sign : Sign) (stack : List ℕ) → length stack ≤ 64
    → IsTree (with_one t slot sign stack)
with_one_is_tree t h slot sign stack short = record {
  ordered = is_sorted-put key_cmp key_total (stack, slot) _ t h.ordered;
  positive = each_put key_cmp IsPositive (stack, slot) _ t (add_one_positive sign _) h.positive;
  shallow = all_keys_put key_cmp key_total (λ key. length key.0 ≤ 64) (stack, slot) _ t short h.shallow;
}

pub count_with_one : (t : Tree) (slot : Slot) (sign : Sign) (stack : List ℕ)
    → count_at (with_one t slot sign stack) slot stack ≡ add_one sign (count_at t slot stack)
count_with_one t slot sign stack =
    ap (λ (o : Option Count). unwrap_or o zero_count) (find_put_same key_cmp key_total (stack, slot) _ t)

pub count_with_one-other : (t : Tree) (slot : Slot) (sign : Sign) (stack : List ℕ) (s : Slot) (k : List ℕ) → (k ≡ stack → s ≢ slot)
    → count_at (with_one t slot sign stack) s k ≡ count_at t s k
count_with_one-other t slot sign stack s k other =
    ap (λ (o : Option Count). unwrap_or o zero_count)
    (find_put_other key_cmp key_total key_same (k, s) (stack, slot) _ t
    (λ e. other (ap (λ (x : List ℕ × Slot). x.0) e) (ap (λ (x : List ℕ × Slot). x.1) e)))

-- a tree with one more is the only one that counts so
pub is_with_one : (t u : Tree) → IsSorted key_cmp t → Each IsPositive t → IsSorted key_cmp u → Each IsPositive u
    → (slot : Slot) (sign : Sign) (stack : List ℕ) → count_at u slot stack ≡ add_one sign (count_at t slot stack)
    → ((s : Slot) (k : List ℕ) → (k ≡ stack → s ≢ slot) → count_at u s k ≡ count_at t s k) → u ≡ with_one t slot sign stack
is_with_one t u t_sorted t_positive u_sorted u_positive slot sign stack here elsewhere =
    canonical_trees u (with_one t slot sign stack) u_sorted u_positive (is_sorted-put key_cmp key_total (stack, slot) _ t t_sorted)
    (each_put key_cmp IsPositive (stack, slot) _ t (add_one_positive sign _) t_positive) same
  where
    same : IsSameTally u (with_one t slot sign stack)
    same s k = elim (key_cmp (k, s) (stack, slot))
        as (λ r. key_cmp (k, s) (stack, slot) ≡ r → count_at u s k ≡ count_at (with_one t slot sign stack) s k) [
          | Less ↦ λ c. differs (λ e. let tied : Less ≡ Equal = sym c ∙ itself e in cc)
          | Equal ↦ λ c.
              let is : ◌≡◌ {A = List ℕ × Slot} (k, s) (stack, slot) = key_same (k, s) (stack, slot) c in
              let at : Tree → List ℕ × Slot → Count = λ tree x. count_at tree x.1 x.0 in
              ap (at u) is ∙ here ∙ sym (count_with_one t slot sign stack) ∙ ap (at (with_one t slot sign stack)) (sym is)
          | Greater ↦ λ c. differs (λ e. let tied : Greater ≡ Equal = sym c ∙ itself e in cc)
        ] refl
      where
        itself : ◌≡◌ {A = List ℕ × Slot} (k, s) (stack, slot) → key_cmp (k, s) (stack, slot) ≡ Equal
        itself e = ap (λ x. key_cmp x (stack, slot)) e ∙ tied_itself key_total (stack, slot)

        differs : (◌≡◌ {A = List ℕ × Slot} (k, s) (stack, slot) → ⊥) → count_at u s k ≡ count_at (with_one t slot sign stack) s k
        differs apart =
            let other : k ≡ stack → s ≢ slot = λ ek es. apart (λ i. (ek i, es i)) in
            elsewhere s k other ∙ sym (count_with_one-other t slot sign stack s k other)

-- one more on either side makes a count's total one more
pub add_one_total : (sign : Sign) (c : Count) → total_of (add_one sign c) ≡ total_of c + 1
add_one_total Plus c = omega arith
add_one_total Minus c = omega arith

-- a tree with one more counts one more in all
pub total-with_one : (t : Tree) → IsTree t → (slot : Slot) (sign : Sign) (stack : List ℕ)
    → total_count (with_one t slot sign stack) ≡ total_count t + 1
total-with_one t h slot sign stack =
    let sums = sum_by-put key_cmp key_total key_same (λ k c. total_of c) zero_count (λ k. refl) (stack, slot)
    (add_one sign (count_at t slot stack)) t h.ordered in
    let more = add_one_total sign (count_at t slot stack) in
    omega (arith, sums, more)

-- no count is above the sum of all
pub count_le_total : (t : Tree) (slot : Slot) (stack : List ℕ) → total_of (count_at t slot stack) ≤ total_count t
count_le_total t slot stack = at_most t
  where
    at_most : (t : Tree) → total_of (count_at t slot stack) ≤ total_count t
    at_most [] = omega arith
    at_most (row ∷ rows) =
        let rest = at_most rows in
        let sum = sum_by-cons (λ (r : (List ℕ × Slot) × Count). total_of r.1) row rows in
        elim (eq_by_cmp key_cmp (stack, slot) row.0) as (λ b.
        total_of (unwrap_or (cond b (Some row.1) (find key_cmp (stack, slot) rows)) zero_count) ≤ total_count (row ∷ rows)) [
          | true ↦ omega (arith, sum)
          | false ↦ omega (arith, sum, rest)
        ]
