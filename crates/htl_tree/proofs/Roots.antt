-- A root, whose nodes are in normal form, is seen as the tree of what it counts.
use Rattle.std.proofs.Common.{◌≡◌, ℕ, ◌+◌, ◌<◌, ◌≤◌, ◌^◌, ◌≢◌, List, [], ◌∷◌, map}
use Rattle.std.proofs.Common.{reverse, length, Option, Some, None, unwrap_or, sym, ◌∙◌, ap, subst, arith}
use Rattle.std.specs.Ordering.{nat_cmp, ordering_then}
use Rattle.std.specs.Cmp.Lexicographic.{slice_cmp}
use Rattle.std.proofs.lemmas.List.{reverse-reverse, length-reverse}
use Rattle.htl_sorted.specs.Entries.{IsSorted, Each}
use Rattle.htl_event.specs.declared.slot.Slot.{Slot}
use Rattle.htl_event.specs.declared.slot.Sign.{Sign}
use Rattle.htl_event.specs.declared.slot.Count.{Count}
use Rattle.htl_event.specs.Tallies.{zero_count, plus_count, total_of, IsPositive}
use Rattle.htl_sorted.proofs.ChangedKeys.{find-map_key, sorted-map_key, each-map_key}
use Rattle.htl_tree.specs.declared.node.Node.{Node}
use Rattle.htl_event.specs.SlotOrder.{slot_cmp}
use Rattle.htl_tree.specs.Trees.{Tree, key_cmp, count_at, add_one, with_one}
use Rattle.htl_tree.specs.Trees.{total_count, IsTree, AllShort, IsSumTally, IsSameTally as IsSameTree}
use Rattle.htl_tree.specs.Nodes.{Position, top, tally, tally_of, rows, tree_at, tree_of, IsNormal, IsNonEmpty, IsNormalTop, IsNormalRoot}
use Rattle.htl_tree.specs.Nodes.{IsAdded, IsKept, IsBranch, IsSameTally, IsCopy, IsSum, FitsSum}
use Rattle.htl_tree.proofs.NodeRows.{path_cmp, tally_rows, rows_sorted, rows_positive}
use Rattle.htl_tree.proofs.CountAdded.{nonempty_from, add_one_positive}
use Rattle.htl_tree.proofs.Canonical.{inhabited}
use Rattle.htl_tree.proofs.Depth.{low_node}
use Rattle.htl_tree.proofs.SlotRows.{short_root}
use Rattle.htl_tree.proofs.TreesAsLists.{canonical_trees, is_with_one, with_one_is_tree, nothing_is_tree, count_le_total}
use Rattle.htl_tree.proofs.CopiesAndSums.{copied_nonempty, summed_nonempty}
use Rattle.htl_tree.proofs.SumsFromTally.{sum_short}

abbrev outward : List ℕ × Slot → List ℕ × Slot
outward key = (reverse key.0, key.1)

outward_cmp : (k j : List ℕ × Slot) → key_cmp (outward k) (outward j) ≡ path_cmp k j
outward_cmp k j = λ i. ordering_then (slice_cmp nat_cmp (reverse-reverse k.0 i) (reverse-reverse j.0 i)) (slot_cmp k.1 j.1)

all_outward : (t : Tree) → AllShort t → AllShort (map (λ row. (outward row.0, row.1)) t)
all_outward [] h = tt
all_outward (row ∷ t) h = (rw (length-reverse row.0.0) h.0, all_outward t h.1)

-- where no path is too long once it is turned around, none is too long
pub all_inward : (t : Tree) → AllShort (map (λ row. (outward row.0, row.1)) t) → AllShort t
all_inward [] h = tt
all_inward (row ∷ t) h = (rw (length-reverse row.0.0) at h.0, all_inward t h.1)

-- the tree of a position in normal form is in stack order and slot order
pub sorted_tree : {A : Type 0} (n : Position A) → IsNormal n → IsSorted key_cmp (tree_at n)
sorted_tree n h = sorted-map_key outward key_cmp path_cmp outward_cmp (rows n) (rows_sorted n h)

-- no count of the tree of a position in normal form is zero
pub positive_tree : {A : Type 0} (n : Position A) → IsNormal n → Each IsPositive (tree_at n)
positive_tree n h = each-map_key outward key_cmp IsPositive (rows n) (rows_positive n h)

-- a root with short stacks
pub root_from : {A : Type 0} (n : Position A) → IsNormal n → IsNonEmpty n → AllShort (rows n) → IsNormalTop n
root_from n h some short =
    let low = low_node n 0 h some (short_root (rows n) short) in
    record { normal = h; nonempty = some; shallow = short; low = omega (arith, low) }

-- a root whose tree is one
pub top_from : {A : Type 0} {t : Tree} (n : Position A) → IsNormal n → IsNonEmpty n → IsTree t → tree_at n ≡ t → IsNormalTop n
top_from {A} {t} n h some tree is = root_from n h some (all_inward (rows n) (subst (λ u. AllShort u) (sym is) tree.shallow))

-- what a root's position counts is a tree
pub top_is_tree : {A : Type 0} (n : Position A) → IsNormalTop n → IsTree (tree_at n)
top_is_tree n h = record {
  ordered = sorted_tree n h.normal;
  positive = positive_tree n h.normal;
  shallow = all_outward (rows n) h.shallow;
}

-- what a root counts is a tree, also where there are no nodes
pub root_is_tree : {A : Type 0} (root : Option (Node A)) → IsNormalRoot root → IsTree (tree_of root)
root_is_tree None h = nothing_is_tree
root_is_tree (Some n) h = top_is_tree (top n) h

-- the tree counts what its nodes count
pub count_tree : {A : Type 0} (n : Position A) → IsNormal n → (slot : Slot) (stack : List ℕ)
    → count_at (tree_at n) slot stack ≡ tally (reverse stack) slot n
count_tree n h slot stack =
    let t = tree_at n in
    ap (λ k. count_at t slot k) (sym (reverse-reverse stack)) ∙ ap (λ (o : Option Count). unwrap_or o zero_count)
    (find-map_key outward key_cmp path_cmp outward_cmp (reverse stack, slot) (rows n)) ∙ tally_rows (reverse stack) slot n h

-- what a position counts at a path is what its tree counts at the stack of the path
pub tally_tree : {A : Type 0} (n : Position A) → IsNormal n → (p : List ℕ) (slot : Slot)
    → tally p slot n ≡ count_at (tree_at n) slot (reverse p)
tally_tree n h p slot = ap (λ q. tally q slot n) (sym (reverse-reverse p)) ∙ sym (count_tree n h slot (reverse p))

-- the trees of nodes that count the same
pub same_trees : {A : Type 0} (n m : Position A) → IsNormal n → IsNormal m → IsSameTally (tally_of n) (tally_of m)
    → IsSameTree (tree_at n) (tree_at m)
same_trees n m g h same slot stack = count_tree n g slot stack ∙ sym (same (reverse stack) slot) ∙ sym (count_tree m h slot stack)

-- positions whose trees count the same count the same
pub same_nodes : {A : Type 0} (n m : Position A) → IsNormal n → IsNormal m → IsSameTree (tree_at n) (tree_at m)
    → IsSameTally (tally_of n) (tally_of m)
same_nodes n m g h same p slot = tally_tree m h p slot ∙ sym (same slot (reverse p)) ∙ sym (tally_tree n g p slot)

-- roots whose trees count the same have one tree
pub equal_trees : {A : Type 0} (a b : Option (Node A)) → IsNormalRoot a → IsNormalRoot b → IsSameTree (tree_of a) (tree_of b)
    → tree_of a ≡ tree_of b
equal_trees a b g h same = let t = root_is_tree a g in let u = root_is_tree b h in
    canonical_trees (tree_of a) (tree_of b) t.ordered t.positive u.ordered u.positive same

back : (stack k : List ℕ) → reverse k ≡ reverse stack → k ≡ stack
back stack k e = sym (reverse-reverse k) ∙ ap reverse e ∙ reverse-reverse stack

module _ {A : Type 0} (slot : Slot) (sign : Sign) (stack : List ℕ) where
  -- where one was added at a stack's path, the tree is the old one with one more there
  pub added_tree : (n m : Position A) → IsNormalTop n → length stack ≤ 64 → IsAdded (reverse stack) slot sign n m
      → IsNormalTop m × (tree_at m ≡ with_one (tree_at n) slot sign stack)
  added_tree n m h short added =
      let t = top_is_tree n h in
      let here = count_tree m added.normal slot stack ∙ added.counts.here ∙ ap (add_one sign) (sym (count_tree n h.normal slot stack)) in
      let elsewhere : (s : Slot) (k : List ℕ) → (k ≡ stack → s ≢ slot)
      → count_at (tree_at m) s k ≡ count_at (tree_at n) s k = λ s k other. count_tree m added.normal s k
      ∙ added.counts.elsewhere (reverse k) s (λ e. other (back stack k e)) ∙ sym (count_tree n h.normal s k) in
      let is : tree_at m ≡ with_one (tree_at n) slot sign stack =
      is_with_one (tree_at n) (tree_at m) t.ordered t.positive (sorted_tree m added.normal)
      (positive_tree m added.normal) slot sign stack here elsewhere in (
        top_from m added.normal (nonempty_from m (reverse stack) slot (rw added.counts.here (add_one_positive sign _)))
            (with_one_is_tree (tree_at n) t slot sign stack short) is,
        is,
      )

  -- a node that counts one slot once at a stack's path has the tree with this one count
  pub branch_tree : (m : Position A) → length stack ≤ 64 → IsBranch (reverse stack) slot sign m
      → IsNormalTop m × (tree_at m ≡ with_one [] slot sign stack)
  branch_tree m short new =
      let here = count_tree m new.normal slot stack ∙ new.counts.here in
      let elsewhere : (s : Slot) (k : List ℕ) → (k ≡ stack → s ≢ slot) → count_at (tree_at m) s k ≡ count_at [] s k =
      λ s k other. count_tree m new.normal s k ∙ new.counts.elsewhere (reverse k) s (λ e. other (back stack k e)) in
      let is : tree_at m ≡ with_one [] slot sign stack =
      is_with_one [] (tree_at m) tt tt (sorted_tree m new.normal) (positive_tree m new.normal) slot sign stack here elsewhere in (
        top_from m new.normal (nonempty_from m (reverse stack) slot (rw new.counts.here (add_one_positive sign _)))
            (with_one_is_tree [] nothing_is_tree slot sign stack short) is,
        is,
      )

-- nodes that count the same have one tree
pub same_tree : {A : Type 0} (n m : Position A) → IsNormal n → IsNormal m → IsSameTally (tally_of n) (tally_of m)
    → tree_at m ≡ tree_at n
same_tree n m g h same = canonical_trees (tree_at m) (tree_at n) (sorted_tree m h) (positive_tree m h) (sorted_tree n g)
    (positive_tree n g) (same_trees m n h g (λ p s. sym (same p s)))

-- a position that kept all that another counted has its tree
pub kept_tree : {A : Type 0} (n m : Position A) → IsNormalTop n → IsKept n m → IsNormalTop m × (tree_at m ≡ tree_at n)
kept_tree n m h kept =
    let is = same_tree n m h.normal kept.normal kept.counts in
    (top_from m kept.normal (kept.nonempty h.nonempty) (top_is_tree n h) is, is)

-- a root with nodes counts something
pub counts_something : {A : Type 0} (n : Position A) → IsNormalTop n
    → ((slot : Slot) (stack : List ℕ) → count_at (tree_at n) slot stack ≡ zero_count) → ⊥
counts_something n h none =
    let w = inhabited n h.normal h.nonempty in
    let zero : tally w.path w.slot n ≡ zero_count = tally_tree n h.normal w.path w.slot ∙ none w.slot (reverse w.path) in
    let never : IsPositive zero_count = subst IsPositive zero w.counts in
    omega (arith, never)

-- ---- copies and sums

-- a copy of a root's position has its tree
pub copied_tree : {A : Type 0} (n m : Position A) → IsNormalTop n → IsCopy n m → IsNormalTop m × (tree_at m ≡ tree_at n)
copied_tree n m h copy =
    let is = same_tree n m h.normal copy.normal copy.counts in
    (top_from m copy.normal (copied_nonempty n m h.normal copy h.nonempty) (top_is_tree n h) is, is)

-- the tree of a sum counts what the trees of both sides count together
pub summed_tree : {A : Type 0} (a b c : Position A) → IsNormalTop a → IsNormalTop b → IsSum a b c
    → IsNormalTop c × IsSumTally (tree_at c) (tree_at a) (tree_at b)
summed_tree a b c g h sum =
    let added : IsSumTally (tree_at c) (tree_at a) (tree_at b) = λ slot stack.
    count_tree c sum.normal slot stack ∙ sum.counts (reverse stack) slot
    ∙ sym (ap (λ d. plus_count d (count_at (tree_at b) slot stack)) (count_tree a g.normal slot stack)
    ∙ ap (λ d. plus_count (tally (reverse stack) slot a) d) (count_tree b h.normal slot stack)) in
    let short : AllShort (tree_at c) = sum_short (tree_at c) (tree_at a) (tree_at b)
    (sorted_tree c sum.normal) (positive_tree c sum.normal) (top_is_tree a g) (top_is_tree b h) added in
    (root_from c sum.normal (summed_nonempty a b c g.normal sum g.nonempty) (all_inward (rows c) short), added)

-- where the totals of two trees add up to less than 2 ^ 64, all counts of both sides do
pub fits_roots : {A : Type 0} (a b : Position A) → IsNormal a → IsNormal b
    → total_count (tree_at a) + total_count (tree_at b) < 2 ^ 64 → FitsSum a b
fits_roots a b g h fits p s =
    let left : total_of (tally p s a) ≤ total_count (tree_at a) = subst (λ c. total_of c ≤ total_count (tree_at a))
    (sym (tally_tree a g p s)) (count_le_total (tree_at a) s (reverse p)) in
    let right : total_of (tally p s b) ≤ total_count (tree_at b) = subst (λ c. total_of c ≤ total_count (tree_at b))
    (sym (tally_tree b h p s)) (count_le_total (tree_at b) s (reverse p)) in
    omega (arith, left, right, fits)
