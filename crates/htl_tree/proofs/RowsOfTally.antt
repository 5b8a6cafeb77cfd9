-- Rows that rise, with none zero and a sum of 64 bits, are those of one tree once each is turned around; and so are all rows of a tree.
use Rattle.std.proofs.Common.{◌≡◌, ℕ, zero, suc, ◌+◌, ◌<◌, ◌^◌, ◌↔◌, List, [], ◌∷◌}
use Rattle.std.proofs.Common.{map, length, get_or, Option, Some, None, rules, T, true, false, Bool, refl, sym, ◌∙◌, ap, subst, arith}
use Rattle.std.specs.List.{sum_by, list_all, AllByRecursion, AllAdjacentBelow, IsAllAdjacentAnswer}
use Rattle.std.specs.Prelude.{IsTrue, IfSome}
use Rattle.std.specs.Ordering.{is_lt, on}
use Rattle.std.specs.Cmp.{IsTotalOrder, on_total}
use Rattle.std.specs.declared.cmp.Ordering.{Ordering}
use Rattle.std.specs.declared.cmp.Ordering.TheVariants.{Less}
use Rattle.std.specs.FinMap.Entries.{below_all}
use Rattle.std.proofs.lemmas.List.Sums.{sum_by-cons}
use Rattle.htl_lemmas.proofs.Members.{AllByRecursion-weaker}
use Rattle.htl_lemmas.proofs.Tests.{both, less}
use Rattle.htl_event.specs.declared.slot.Slot.{Slot}
use Rattle.htl_event.specs.declared.slot.Count.{Count}
use Rattle.htl_event.specs.Members.{IsRising}
use Rattle.htl_event.proofs.Members.{each_member, Lists-same}
use Rattle.htl_event.proofs.Orders.{strict_from_total}
use Rattle.htl_event.specs.Tallies.{total_of, IsPositive}
use Rattle.htl_sorted.specs.Entries.{IsSorted, Each}
use Rattle.htl_tree.specs.declared.node.Node.{Node}
use Rattle.htl_tree.specs.declared.row.Row.{Row}
use Rattle.htl_tree.specs.Trees.{Tree, key_cmp, total_count, by_stack, ByStackAndSlot, IsTree, IsTally, ListsRowsOf}
use Rattle.htl_tree.specs.HasSlot.{has_slot}
use Rattle.htl_tree.specs.declared.slots.Slots.TheVariants.{All}
use Rattle.htl_tree.specs.Nodes.{tree_of, picked, IsNormalRoot}
use Rattle.htl_tree.specs.Rows.{entries_of, sum_at, WithRows}
use Rattle.htl_tree.specs.Removed.{is_some_count}
use Rattle.htl_tree.proofs.CopiesAndSums.{zero_left}
use Rattle.htl_tree.proofs.CountsRemoved.{some_positive}
use Rattle.htl_tree.proofs.Between.{lists_rows_of}
use Rattle.htl_tree.proofs.Roots.{root_is_tree}
use Rattle.htl_tree.proofs.SumsFromTally.{sum_at_tree}
use Rattle.htl_tree.proofs.TreesAsLists.{key_total, canonical_trees}

abbrev pub Counted : Type 0
Counted = (Slot × List ℕ) × Count

-- ---- rows that rise

module _ {X : Type 0} (R : X → X → Ordering) (total : IsTotalOrder R) where
  abbrev Before : X → X → Type 0
  Before x y = R x y ≡ Less

  -- where each row comes before the next, it comes before all that follow
  pub rising_from_neighbours : (xs : List X) → AllAdjacentBelow (λ x y. true ≡ is_lt (R x y)) xs (length xs) → IsRising Before xs
  rising_from_neighbours [] h = tt
  rising_from_neighbours (x ∷ []) h = (tt, tt)
  rising_from_neighbours (x ∷ y ∷ xs) h =
      let first : R x y ≡ Less = less (R x y) (subst (λ b. T b) (h 0 x (omega arith)) tt) in
      let rest : IsRising Before (y ∷ xs) = rising_from_neighbours (y ∷ xs) (λ k d lt.
      let next : suc k + 1 ≡ suc (k + 1) = omega arith in
      subst (λ n. true ≡ is_lt (R (get_or (y ∷ xs) k d) (get_or (x ∷ y ∷ xs) n d))) next (h (suc k) d (omega (arith, lt)))) in
      ((first, AllByRecursion-weaker (Before y) (Before x) xs (λ z then. total.trans x y z first then) rest.0), rest)

  -- where a row doesn't come before the next, the rows don't rise
  pub no_rise : (xs : List X) (k : ℕ) → k + 1 < length xs → ((d : X) → false ≡ is_lt (R (get_or xs k d) (get_or xs (k + 1) d)))
      → IsRising Before xs → ⊥
  no_rise [] k lt fails h = omega arith
  no_rise (x ∷ []) k lt fails h = omega arith
  no_rise (x ∷ y ∷ xs) zero lt fails h =
      let never : false ≡ true = fails x ∙ ap is_lt h.0.0 in
      cc
  no_rise (x ∷ y ∷ xs) (suc k) lt fails h =
      let next : suc k + 1 ≡ suc (k + 1) = omega arith in
      no_rise (y ∷ xs) k (omega (arith, lt))
      (λ d. subst (λ n. false ≡ is_lt (R (get_or (y ∷ xs) k d) (get_or (x ∷ y ∷ xs) n d))) next (fails d)) h.1

-- the order of rows: by stack, and then by slot
abbrev pub row_cmp : Counted → Counted → Ordering
row_cmp = on (λ (row : Counted). (row.0.1, row.0.0)) key_cmp

-- a test of neighbours tells whether rows rise
pub rises_if : (rows : List Counted) (yes : Bool) → IsAllAdjacentAnswer (λ x y b. b ≡ is_lt (row_cmp x y)) rows yes
    → IsTrue yes ↔ IsRising (λ (a b : Counted). ByStackAndSlot a b) rows
rises_if rows true h = (
  λ yes. rising_from_neighbours row_cmp (on_total (λ (row : Counted). (row.0.1, row.0.0)) key_total) rows h,
  λ rising. refl,
)
rises_if rows false h = (
  λ yes. let never : false ≡ true = yes in absurd (cc),
  λ rising. absurd (no_rise row_cmp (on_total (λ (row : Counted). (row.0.1, row.0.0)) key_total) rows h.0 h.1 h.2 rising),
)

-- ---- counts that aren't zero

positive_some : (c : Count) → IsPositive c → is_some_count c ≡ true
positive_some c h = grind arith

-- where all rows pass the test, none is zero
pub all_positive : (rows : List Counted) → list_all (λ (row : Counted). is_some_count row.1) rows ≡ true
    → AllByRecursion (λ (row : Counted). IsPositive row.1) rows
all_positive [] h = tt
all_positive (row ∷ rows) h = (some_positive row.1 (search (rules, h)), all_positive rows (search (rules, h)))

-- where none is zero, all rows pass the test
pub positive_all : (rows : List Counted) → AllByRecursion (λ (row : Counted). IsPositive row.1) rows
    → list_all (λ (row : Counted). is_some_count row.1) rows ≡ true
positive_all [] h = refl
positive_all (row ∷ rows) h = rw (positive_some row.1 h.0) (positive_all rows h.1)

-- ---- rows turned around

-- turned around, rows have the same sum
pub total_turned : (rows : List Counted) → total_count (map by_stack rows) ≡ sum_by (λ (row : Counted). total_of row.1) rows
total_turned [] = refl
total_turned (row ∷ rows) =
    sum_by-cons (λ (row : (List ℕ × Slot) × Count). total_of row.1) (by_stack row) (map by_stack rows)
    ∙ ap (λ n. total_of row.1 + n) (total_turned rows) ∙ sym (sum_by-cons (λ (row : Counted). total_of row.1) row rows)

below_turned : (row : Counted) (rows : List Counted) → AllByRecursion (λ (next : Counted). ByStackAndSlot row next) rows
    → T (below_all key_cmp (row.0.1, row.0.0) (map by_stack rows))
below_turned row [] h = tt
below_turned row (next ∷ rows) h = both _ _ (subst (λ o. T (is_lt o)) (sym h.0) tt) (below_turned row rows h.1)

-- rows that rise are sorted by their keys
pub sorted_turned : (rows : List Counted) → IsRising (λ (a b : Counted). ByStackAndSlot a b) rows → IsSorted key_cmp (map by_stack rows)
sorted_turned [] h = tt
sorted_turned (row ∷ rows) h = both _ _ (below_turned row rows h.0) (sorted_turned rows h.1)

-- turned around, no row is zero
pub positive_turned : (rows : List Counted) → AllByRecursion (λ (row : Counted). IsPositive row.1) rows
    → Each IsPositive (map by_stack rows)
positive_turned [] h = tt
positive_turned (row ∷ rows) h = (h.0, positive_turned rows h.1)

-- rows that passed all tests are a tally, and the sum of their counts is that of the tree's
pub is_tally : (rows : List Counted) (sum : Option ℕ) → IsRising (λ (a b : Counted). ByStackAndSlot a b) rows
    → list_all (λ (row : Counted). is_some_count row.1) rows ≡ true
    → IfSome sum (λ n. (n ≡ sum_by (λ (row : Counted). total_of row.1) rows) × (n < 2 ^ 64))
    → IfSome sum (λ n. IsTally rows × (n ≡ total_count (map by_stack rows)))
is_tally rows None rising positive h = tt
is_tally rows (Some n) rising positive h = (
  record { rising = rising; positive = all_positive rows positive; fits = omega (arith, h.0, h.1) },
  h.0 ∙ sym (total_turned rows),
)

-- ---- the tree

-- a root to which these rows were added, and nothing else, counts them
pub tree_of_tally : {A : Type 0} (root : Option (Node A)) (counts : List Counted) (rows : List Row) → IsTally counts
    → entries_of rows ≡ map by_stack counts → IsNormalRoot root → WithRows (tree_of root) [] rows → tree_of root ≡ map by_stack counts
tree_of_tally root counts rows tally are normal with_rows =
    let t = root_is_tree root normal in
    let sorted = sorted_turned counts tally.rising in
    canonical_trees (tree_of root) (map by_stack counts) t.ordered t.positive sorted (positive_turned counts tally.positive)
    (λ slot stack. with_rows slot stack ∙ sym (zero_left (sum_at (entries_of rows) slot stack))
    ∙ ap (λ (u : Tree). sum_at u slot stack) are ∙ sum_at_tree (map by_stack counts) sorted slot stack)

-- ---- the rows of a tree

all_picked : (t : Tree) → map by_stack (picked (has_slot All) t) ≡ t
all_picked [] = refl
all_picked (row ∷ t) = ap (λ (u : Tree). row ∷ u) (all_picked t)

-- the rows that a tree lists of all slots are the tree, once each is turned around
all_turned : (t : Tree) → IsTree t → (rows : List Counted) → ListsRowsOf t All rows → map by_stack rows ≡ t
all_turned t h rows lists =
    ap (map by_stack) (Lists-same ByStackAndSlot
    (strict_from_total (on_total (λ (row : Counted). (row.0.1, row.0.0)) key_total)) _ _ rows (picked (has_slot All) t)
    (λ row. ((λ x. x), (λ x. x))) lists (lists_rows_of t h All)) ∙ all_picked t

-- the rows that a tree lists of all slots are a tally, and that of the tree
pub rows_are_tally : (t : Tree) → IsTree t → total_count t < 2 ^ 64 → (rows : List Counted) → ListsRowsOf t All rows
    → IsTally rows × (map by_stack rows ≡ t)
rows_are_tally t h small rows lists =
    let is = all_turned t h rows lists in
    let sum = ap total_count is in (
      record {
        rising = lists.rising;
        positive = each_member (λ (row : Counted). IsPositive row.1) rows (λ row there. ((lists.members row).0 there).1);
        fits = omega (arith, sum, total_turned rows, small);
      },
      is,
    )
