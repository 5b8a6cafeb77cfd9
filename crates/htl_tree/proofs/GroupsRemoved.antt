-- A root from which a group of rows was taken out counts these less, and so does one from which group after group was taken out.
use Rattle.std.proofs.Common.{◌≡◌, ℕ, ◌+◌, ◌<◌, ◌≤◌, List, [], reverse, length, get_or, take, drop, Option, Some, None}
use Rattle.std.proofs.Common.{unwrap_or, refl, sym, ◌∙◌, ap, subst, arith}
use Rattle.std.specs.Borrow.{Bor}
use Rattle.std.specs.List.{AllByRecursion}
use Rattle.std.specs.FinMap.Entries.{find}
use Rattle.std.proofs.lemmas.List.{reverse-reverse, take-append-drop}
use Rattle.std.proofs.lemmas.Grind.{flat_map-append}
use Rattle.htl_event.specs.declared.slot.Slot.{Slot}
use Rattle.htl_event.specs.declared.slot.Count.{Count}
use Rattle.htl_event.specs.Tallies.{zero_count, plus_count, IsPositive}
use Rattle.htl_sorted.specs.Entries.{Each}
use Rattle.htl_sorted.proofs.Finds.{each_found, all_keys_from_found, key_found}
use Rattle.htl_tree.specs.declared.row.Row.{Row}
use Rattle.htl_tree.specs.Trees.{Tree, key_cmp, count_at, IsTree, AllShort}
use Rattle.htl_tree.specs.Nodes.{Position, tally, tally_of, rows, tree_at, IsNormal, IsNonEmpty, IsNormalTop}
use Rattle.htl_tree.specs.Rows.{entries_of, sum_at, slot_sum, AddsRows, WithRows}
use Rattle.htl_tree.specs.Removed.{IsAtMost}
use Rattle.htl_tree.proofs.CountsRemoved.{plus_swap}
use Rattle.htl_tree.proofs.FilterBits.{not_zero}
use Rattle.htl_tree.proofs.RowGroups.{rows_of, group_tree, group_sum, sum-rows_append, sum-take_more}
use Rattle.htl_tree.proofs.RowsRemoved.{still_positive}
use Rattle.htl_tree.proofs.Roots.{root_from, all_inward, count_tree, tally_tree, sorted_tree, positive_tree, top_is_tree}
use Rattle.htl_tree.proofs.TreesAsLists.{key_total, key_same, nothing_is_tree}

-- ---- one group

-- what the rows count of a slot is counted at the end of their stack
pub group_counted : {A : Type 0} (n : Position A) → IsNormal n → (stack : List ℕ) (rs : List Row)
    → AllByRecursion (λ (row : Row). row.stack.now ≡ stack) rs
    → ((slot : Slot) (k : List ℕ) → IsAtMost (sum_at (entries_of rs) slot k) (count_at (tree_at n) slot k))
    → (slot : Slot) → IsAtMost (slot_sum slot rs) (tally (reverse stack) slot n)
group_counted n h stack rs alike counted slot =
    subst (λ c. IsAtMost c (tally (reverse stack) slot n)) (sym (group_sum rs stack alike slot))
    (subst (λ c. IsAtMost (sum_at (entries_of rs) slot stack) c) (count_tree n h slot stack) (counted slot stack))

-- a position that counts less than a root's is a root's, too
pub less_top : {A : Type 0} (n m : Position A) → IsNormalTop n → IsNormal m × IsNonEmpty m → (path : List ℕ) (rs : List Row)
    → AddsRows path rs (tally_of m) (tally_of n) → IsNormalTop m
less_top n m h good path rs adds = root_from m good.0 good.1 (all_inward (rows m) all_are_short)
  where
    was : (k : List ℕ × Slot) (o : Option Count) → find key_cmp k (tree_at n) ≡ o → IsPositive (count_at (tree_at n) k.1 k.0) → length k.0 ≤ 64
    was k (Some c) found some = key_found key_cmp key_total key_same (λ (k : List ℕ × Slot). length k.0 ≤ 64) k c (tree_at n)
        (top_is_tree n h).shallow found
    was k None none some = absurd (not_zero (subst (λ (o : Option Count). IsPositive (unwrap_or o zero_count)) none some))

    all_are_short : AllShort (tree_at m)
    all_are_short = all_keys_from_found key_cmp key_total (λ (k : List ℕ × Slot). length k.0 ≤ 64) (tree_at m) (sorted_tree m good.0)
        (λ k v found.
        let counted : count_at (tree_at m) k.1 k.0 ≡ v = ap (λ (o : Option Count). unwrap_or o zero_count) found in
        let some : IsPositive v = each_found key_cmp IsPositive k v (tree_at m) (positive_tree m good.0) found in
        let before : IsPositive (tally (reverse k.0) k.1 n) = still_positive path rs (tally_of m) (tally_of n) adds (reverse k.0) k.1
        (subst IsPositive (sym counted ∙ count_tree m good.0 k.1 k.0) some) in
        was k (find key_cmp k (tree_at n)) refl (subst IsPositive (sym (count_tree n h.normal k.1 k.0)) before))

module _ {A : Type 0} (n m : Position A) (h : IsNormalTop n) (stack : List ℕ) (short : length stack ≤ 64) (rs : List Row)
    (some : 0 < length rs) (each : Each IsPositive (entries_of rs)) (alike : AllByRecursion (λ (row : Row). row.stack.now ≡ stack) rs)
    (adds : AddsRows (reverse stack) rs (tally_of m) (tally_of n)) where
  with_group : (t : Tree) → IsTree t → ((p : List ℕ) (slot : Slot) → tally p slot m ≡ count_at t slot (reverse p)) → WithRows (tree_at n) t rs
  with_group t tree is = (group_tree n h.normal t tree stack short rs some each alike
      (λ slot. adds.here slot ∙ ap (λ c. plus_count c (slot_sum slot rs))
      (is (reverse stack) slot ∙ ap (λ k. count_at t slot k) (reverse-reverse stack)))
      (λ p slot other. adds.elsewhere p slot other ∙ is p slot)).1

  -- the tree of what is left, and the rows, are the tree that was there
  pub less_tree : IsNormalTop m → WithRows (tree_at n) (tree_at m) rs
  less_tree good = with_group (tree_at m) (top_is_tree m good) (tally_tree m good.normal)

  -- where nothing is left, the rows are all that was there
  pub all_of_tree : ((p : List ℕ) (slot : Slot) → tally p slot m ≡ zero_count) → WithRows (tree_at n) [] rs
  all_of_tree none = with_group [] nothing_is_tree none

-- ---- one group after the other

-- what the first groups and the next one count is no more than what all count
take_within : (gs : List (Bor (List Row))) (i : ℕ) (d : Bor (List Row)) → i < length gs → (slot : Slot) (stack : List ℕ)
    → IsAtMost (plus_count (sum_at (entries_of (rows_of (take i gs))) slot stack) (sum_at (entries_of (get_or gs i d).now) slot stack))
    (sum_at (entries_of (rows_of gs)) slot stack)
take_within gs i d lt slot stack =
    let first : Count = sum_at (entries_of (rows_of (take (i + 1) gs))) slot stack in
    let last : Count = sum_at (entries_of (rows_of (drop (i + 1) gs))) slot stack in
    let all : sum_at (entries_of (rows_of gs)) slot stack ≡ plus_count first last =
    ap (λ (l : List (Bor (List Row))). sum_at (entries_of (rows_of l)) slot stack) (sym (take-append-drop (i + 1) gs))
    ∙ ap (λ (l : List Row). sum_at (entries_of l) slot stack)
    (flat_map-append (λ (group : Bor (List Row)). group.now) (take (i + 1) gs) (drop (i + 1) gs))
    ∙ sum-rows_append (rows_of (take (i + 1) gs)) (rows_of (drop (i + 1) gs)) slot stack in
    subst (λ c. IsAtMost c (sum_at (entries_of (rows_of gs)) slot stack)) (sum-take_more gs i d lt slot stack)
    (subst (λ c. IsAtMost first c) (sym all) record { plus = omega arith; minus = omega arith })

-- the next group is still counted
pub group_left : (gs : List (Bor (List Row))) (i : ℕ) (d : Bor (List Row)) → i < length gs → (old now : Tree) → WithRows old now (rows_of (take i gs))
    → (before : Slot → List ℕ → Count) × ((slot : Slot) (stack : List ℕ)
    → count_at old slot stack ≡ plus_count (before slot stack) (sum_at (entries_of (rows_of gs)) slot stack))
    → (slot : Slot) (stack : List ℕ) → IsAtMost (sum_at (entries_of (get_or gs i d).now) slot stack) (count_at now slot stack)
group_left gs i d lt old now so_far counted slot stack =
    let within = take_within gs i d lt slot stack in
    let one = within.plus in
    let two = within.minus in
    let both = sym (so_far slot stack) ∙ counted.1 slot stack in
    let plus = ap (λ (c : Count). c.plus) both in
    let minus = ap (λ (c : Count). c.minus) both in
    record { plus = omega (arith, one, plus); minus = omega (arith, two, minus) }

-- one group more was taken out
pub groups_more : (gs : List (Bor (List Row))) (i : ℕ) (d : Bor (List Row)) → i < length gs → (old now new : Tree)
    → WithRows old now (rows_of (take i gs)) → WithRows now new (get_or gs i d).now → WithRows old new (rows_of (take (i + 1) gs))
groups_more gs i d lt old now new so_far more slot stack =
    let first : Count = sum_at (entries_of (rows_of (take i gs))) slot stack in
    let one : Count = sum_at (entries_of (get_or gs i d).now) slot stack in
    so_far slot stack ∙ ap (λ c. plus_count c first) (more slot stack) ∙ plus_swap (count_at new slot stack) one first
    ∙ ap (plus_count (count_at new slot stack)) (sym (sum-take_more gs i d lt slot stack))
