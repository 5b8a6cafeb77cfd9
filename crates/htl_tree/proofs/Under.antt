-- The counts of a slot add up over the rows of a node and of a tree, at all paths or under one.
use Rattle.std.proofs.Common.{◌≡◌, ℕ, ◌+◌, ◌≤◌, List, [], ◌∷◌, ◌++◌, map, reverse, drop, Option}
use Rattle.std.proofs.Common.{Some, None, Bool, true, false, ◌&&◌, cond, nat_eq, unwrap_or, refl, sym, ◌∙◌, ap, arith}
use Rattle.std.specs.Bool.{Decides}
use Rattle.std.specs.List.{starts_with}
use Rattle.std.specs.Ordering.{nat_cmp, is_eq}
use Rattle.std.specs.Cmp.{nat_cmp_total, tied_itself, unsigned_Decides}
use Rattle.std.specs.Cmp.Lexicographic.{pointwise_decides}
use Rattle.std.specs.FinMap.{nat_cmp-IsAntisymmetric}
use Rattle.std.specs.FinMap.Entries.{find}
use Rattle.std.specs.declared.cmp.Ordering.TheVariants.{Less, Equal, Greater}
use Rattle.std.proofs.lemmas.Bool.Decides.{nat_tests, same_from_decides}
use Rattle.std.proofs.lemmas.List.{reverse-reverse}
use Rattle.std.proofs.lemmas.List.Sums.{sum_by-cons}
use Rattle.htl_event.specs.declared.slot.Slot.{Slot}
use Rattle.htl_event.specs.declared.slot.Slot.TheVariants.{Tagged, Handles, Bad}
use Rattle.htl_event.specs.declared.slot.Count.{Count}
use Rattle.htl_event.specs.Slots.{same_slot}
use Rattle.htl_event.specs.Stacks.{outer}
use Rattle.htl_event.specs.Tallies.{zero_count, plus_count, total_of}
use Rattle.htl_sorted.specs.Entries.{IsSorted}
use Rattle.htl_lemmas.proofs.Tests.{both_left, both_right, equal}
use Rattle.htl_sorted.proofs.Finds.{find_below, below_tied}
use Rattle.htl_event.specs.SlotOrder.{slot_cmp}
use Rattle.htl_event.specs.OrderLaws.{slot_total, slot_same}
use Rattle.htl_tree.specs.Trees.{Tree, sum_where, count_under, total_count}
use Rattle.htl_tree.specs.declared.node.Node.{Node}
use Rattle.htl_tree.specs.Nodes.{Position, frames, inside, counts, children, count_in, at_child, below, rows, tree_at, sum_under, IsNormal}
use Rattle.htl_tree.proofs.Positions.{before}
use Rattle.htl_tree.proofs.Tops.{top_of}
use Rattle.htl_tree.proofs.CountAdded.{normal_here}
use Rattle.htl_tree.proofs.Children.{IsChildAt, from_child}
use Rattle.htl_tree.proofs.NodeRows.{rows_here, child_rows, rows_is}
use Rattle.htl_tree.proofs.CopiesAndSums.{zero_right, zero_left}
use Rattle.htl_tree.proofs.SumsFromTally.{plus_assoc}

-- the test for the same slot passes exactly where the slots are equal
pub same_slot_Decides : (s t : Slot) → Decides (same_slot s t) (s ≡ t)
same_slot_Decides (Tagged a b) (Tagged c d) = let tags = pointwise_decides unsigned_Decides b d in grind (arith, nat_tests, tags)
same_slot_Decides (Handles a) (Handles b) = grind (arith, nat_tests)
same_slot_Decides (Bad a b) (Bad c d) = grind (arith, nat_tests)
same_slot_Decides (Tagged a b) (Handles c) = (λ e. cc, λ e. cc)
same_slot_Decides (Tagged a b) (Bad c d) = (λ e. cc, λ e. cc)
same_slot_Decides (Handles a) (Tagged b c) = (λ e. cc, λ e. cc)
same_slot_Decides (Handles a) (Bad b c) = (λ e. cc, λ e. cc)
same_slot_Decides (Bad a b) (Tagged c d) = (λ e. cc, λ e. cc)
same_slot_Decides (Bad a b) (Handles c) = (λ e. cc, λ e. cc)

-- slots are the same exactly where they tie
pub same_slot_tied : (s t : Slot) → same_slot s t ≡ is_eq (slot_cmp s t)
same_slot_tied s t = same_from_decides _ _ (same_slot_Decides s t)
    (λ e. slot_same s t (equal (slot_cmp s t) e), λ e. ap (λ u. is_eq (slot_cmp s u)) (sym e) ∙ ap is_eq (tied_itself slot_total s))

module _ (slot : Slot) where
  pub sum_where-append : (p : List ℕ → Bool) (xs ys : Tree)
      → sum_where p slot (xs ++ ys) ≡ plus_count (sum_where p slot xs) (sum_where p slot ys)
  sum_where-append p [] ys = zero_left (sum_where p slot ys)
  sum_where-append p (x ∷ xs) ys =
      elim (same_slot slot x.0.1 && p x.0.0)
      as (λ b. cond b (plus_count x.1 (sum_where p slot (xs ++ ys))) (sum_where p slot (xs ++ ys))
      ≡ plus_count (cond b (plus_count x.1 (sum_where p slot xs)) (sum_where p slot xs)) (sum_where p slot ys)) [
        | true ↦ ap (λ d. plus_count x.1 d) (sum_where-append p xs ys) ∙ sym (plus_assoc x.1 (sum_where p slot xs) (sum_where p slot ys))
        | false ↦ sum_where-append p xs ys
      ]

  -- the same paths pass
  pub sum_where-same : (p q : List ℕ → Bool) → ((k : List ℕ) → p k ≡ q k) → (xs : Tree) → sum_where p slot xs ≡ sum_where q slot xs
  sum_where-same p q same [] = refl
  sum_where-same p q same (x ∷ xs) =
      rw (same x.0.0) (ap (λ d. cond (same_slot slot x.0.1 && q x.0.0) (plus_count x.1 d) d) (sum_where-same p q same xs))

  pub sum_where-map : (h : List ℕ → List ℕ) (p : List ℕ → Bool) (xs : Tree)
      → sum_where p slot (map (λ row. ((h row.0.0, row.0.1), row.1)) xs) ≡ sum_where (λ k. p (h k)) slot xs
  sum_where-map h p [] = refl
  sum_where-map h p (x ∷ xs) = ap (λ d. cond (same_slot slot x.0.1 && p (h x.0.0)) (plus_count x.1 d) d) (sum_where-map h p xs)

  sum_where-none : (p : List ℕ → Bool) → ((k : List ℕ) → p k ≡ false) → (xs : Tree) → sum_where p slot xs ≡ zero_count
  sum_where-none p none [] = refl
  sum_where-none p none (x ∷ xs) = rw (none x.0.0)
      (elim (same_slot slot x.0.1) as (λ b. cond (b && false) (plus_count x.1 (sum_where p slot xs)) (sum_where p slot xs) ≡ zero_count) [
        | true ↦ sum_where-none p none xs
        | false ↦ sum_where-none p none xs
      ])

  -- no sum of a slot's counts is above the total of all counts
  pub sum_where_le_total : (p : List ℕ → Bool) (xs : Tree) → total_of (sum_where p slot xs) ≤ total_count xs
  sum_where_le_total p [] = omega arith
  sum_where_le_total p (x ∷ xs) =
      let rest = sum_where_le_total p xs in
      let whole = sum_by-cons (λ (row : (List ℕ × Slot) × Count). total_of row.1) x xs in
      elim (same_slot slot x.0.1 && p x.0.0)
      as (λ b. total_of (cond b (plus_count x.1 (sum_where p slot xs)) (sum_where p slot xs)) ≤ total_count (x ∷ xs)) [
        | true ↦ omega (arith, rest, whole)
        | false ↦ omega (arith, rest, whole)
      ]

  -- ---- the rows of a node itself

  sum_here : (es : List (Slot × Count)) → IsSorted slot_cmp es
      → sum_where (λ p. starts_with nat_eq p []) slot (rows_here es) ≡ count_in es slot
  sum_here [] s = refl
  sum_here (e ∷ es) s = rw (same_slot_tied slot e.0)
      (elim (slot_cmp slot e.0) as (λ r. slot_cmp slot e.0 ≡ r
      → cond (is_eq r && true) (plus_count e.1 (sum_where (λ p. starts_with nat_eq p []) slot (rows_here es)))
      (sum_where (λ p. starts_with nat_eq p []) slot (rows_here es))
      ≡ unwrap_or (cond (is_eq r) (Some e.1) (find slot_cmp slot es)) zero_count) [
        | Less ↦ λ c. sum_here es (both_right _ _ s)
        | Equal ↦ λ c.
            let none : find slot_cmp slot es ≡ None =
            find_below slot_cmp slot_total slot es (below_tied slot_cmp slot_total slot e.0 es c (both_left _ _ s)) in
            let rest : sum_where (λ p. starts_with nat_eq p []) slot (rows_here es) ≡ zero_count = sum_here es (both_right _ _ s)
            ∙ ap (λ (o : Option Count). unwrap_or o zero_count) none in
            ap (λ d. plus_count e.1 d) rest ∙ sym (zero_right e.1)
        | Greater ↦ λ c. sum_here es (both_right _ _ s)
      ] refl)

  no_rows_here : (f : ℕ) (p : List ℕ) (es : List (Slot × Count)) → sum_where (λ q. starts_with nat_eq q (f ∷ p)) slot (rows_here es) ≡ zero_count
  no_rows_here f p [] = refl
  no_rows_here f p (e ∷ es) = elim (same_slot slot e.0)
      as (λ b. cond (b && false) (plus_count e.1 (sum_where (λ q. starts_with nat_eq q (f ∷ p)) slot (rows_here es)))
      (sum_where (λ q. starts_with nat_eq q (f ∷ p)) slot (rows_here es)) ≡ zero_count) [
        | true ↦ no_rows_here f p es
        | false ↦ no_rows_here f p es
      ]

  -- ---- and of those below

  -- what children count in all
  abbrev pub child_sum : {A : Type 0} → List (ℕ × Position A) → Count
  child_sum ks = sum_where (λ p. starts_with nat_eq p []) slot (child_rows ks)

  pub child_sum-cons : {A : Type 0} (k : ℕ × Position A) (ks : List (ℕ × Position A))
      → child_sum (k ∷ ks) ≡ plus_count (sum_under [] slot k.1) (child_sum ks)
  child_sum-cons k ks = sum_where-append (λ p. starts_with nat_eq p []) (map (λ row. below k.0 row) (rows k.1)) (child_rows ks)
      ∙ ap (λ d. plus_count d (child_sum ks)) (sum_where-map (λ q. k.0 ∷ q) (λ p. starts_with nat_eq p []) (rows k.1))

  -- a slot's sum at a node is what the node itself counts and what its children count
  pub sum_node : {A : Type 0} (n : Position A) → IsNormal n → sum_under [] slot n ≡ plus_count (count_in (counts n) slot) (child_sum (children n))
  sum_node n h =
      ap (sum_where (λ p. starts_with nat_eq p []) slot) (rows_is n)
      ∙ sum_where-append (λ p. starts_with nat_eq p []) (rows_here (counts n)) (child_rows (children n))
      ∙ ap (λ d. plus_count d (child_sum (children n))) (sum_here (counts n) (normal_here n h).slots)

  sum_before : {A : Type 0} (f : ℕ) (c : Position A) → sum_under [] slot (before f c) ≡ sum_under [] slot c
  sum_before f c = sum_where-map (λ q. f ∷ q) (λ p. starts_with nat_eq p []) (rows c)

  -- frames before a node count nothing
  pub sum_inside : {A : Type 0} (fs : List ℕ) (n : Node A) → sum_under [] slot (fs, n) ≡ sum_under [] slot (inside n)
  sum_inside [] n = refl
  sum_inside (f ∷ fs) n = sum_before f (fs, n) ∙ sum_inside fs n

  same_frame : (f : ℕ) → nat_eq f f ≡ true
  same_frame f = grind (arith, nat_tests)

  children_under : {A : Type 0} (f : ℕ) (p : List ℕ) (ks : List (ℕ × Position A)) → IsSorted nat_cmp ks
      → sum_where (λ q. starts_with nat_eq q (f ∷ p)) slot (child_rows ks) ≡ at_child (λ c. sum_under p slot c) (find nat_cmp f ks)
  children_under f p [] s = refl
  children_under {A} f p (k ∷ ks) s =
      let P : List ℕ → Bool = λ q. starts_with nat_eq q (f ∷ p) in
      let first : sum_where P slot (child_rows (k ∷ ks))
      ≡ plus_count (sum_where (λ q. P (k.0 ∷ q)) slot (rows k.1)) (sum_where P slot (child_rows ks)) =
      sum_where-append P (map (λ row. below k.0 row) (rows k.1)) (child_rows ks)
      ∙ ap (λ d. plus_count d (sum_where P slot (child_rows ks))) (sum_where-map (λ q. k.0 ∷ q) P (rows k.1)) in
      let rest = children_under f p ks (both_right _ _ s) in
      let other : nat_eq f k.0 ≡ false → sum_where P slot (child_rows (k ∷ ks))
      ≡ at_child (λ c. sum_under p slot c) (find nat_cmp f ks) = λ differs.
      first ∙ ap (λ d. plus_count d (sum_where P slot (child_rows ks)))
      (sum_where-none (λ q. P (k.0 ∷ q)) (λ q. rw differs refl) (rows k.1))
      ∙ sym (zero_left (sum_where P slot (child_rows ks))) ∙ rest in
      elim (nat_cmp f k.0) as (λ r. nat_cmp f k.0 ≡ r
      → sum_where P slot (child_rows (k ∷ ks)) ≡ at_child (λ c. sum_under p slot c) (cond (is_eq r) (Some k.1) (find nat_cmp f ks))) [
        | Less ↦ λ c. other
            (apart f k.0 (λ e. let tied : Less ≡ Equal = sym c ∙ ap (λ g. nat_cmp f g) (sym e) ∙ tied_itself nat_cmp_total f in cc))
        | Equal ↦ λ c.
            let same : f ≡ k.0 = nat_cmp-IsAntisymmetric f k.0 c in
            let gone : find nat_cmp f ks ≡ None =
            find_below nat_cmp nat_cmp_total f ks (below_tied nat_cmp nat_cmp_total f k.0 ks c (both_left _ _ s)) in
            let none : sum_where P slot (child_rows ks) ≡ zero_count = rest ∙ ap (at_child (λ c. sum_under p slot c)) gone in
            let here : nat_eq f k.0 ≡ true = ap (λ g. nat_eq f g) (sym same) ∙ same_frame f in
            first ∙ ap (λ d. plus_count (sum_where (λ q. P (k.0 ∷ q)) slot (rows k.1)) d) none
            ∙ sym (zero_right (sum_where (λ q. P (k.0 ∷ q)) slot (rows k.1)))
            ∙ sum_where-same (λ q. P (k.0 ∷ q)) (λ q. starts_with nat_eq q p) (λ q. rw here refl) (rows k.1)
        | Greater ↦ λ c. other
            (apart f k.0 (λ e. let tied : Greater ≡ Equal = sym c ∙ ap (λ g. nat_cmp f g) (sym e) ∙ tied_itself nat_cmp_total f in cc))
      ] refl
    where
      apart : (f g : ℕ) → (f ≡ g → ⊥) → nat_eq f g ≡ false
      apart f g differs = grind (arith, nat_tests, differs)

  -- the sum at a path is that of the child at its first frame
  pub under_node : {A : Type 0} (n : Position A) → IsNormal n → (f : ℕ) (p : List ℕ)
      → sum_under (f ∷ p) slot n ≡ at_child (λ c. sum_under p slot c) (find nat_cmp f (children n))
  under_node n h f p =
      let P : List ℕ → Bool = λ q. starts_with nat_eq q (f ∷ p) in
      ap (sum_where P slot) (rows_is n) ∙ sum_where-append P (rows_here (counts n)) (child_rows (children n))
      ∙ ap (λ d. plus_count d (sum_where P slot (child_rows (children n)))) (no_rows_here f p (counts n))
      ∙ sym (zero_left (sum_where P slot (child_rows (children n)))) ∙ children_under f p (children n) (normal_here n h).frames

  -- a tree's count under a path is what its position counts under this path
  pub under_tree : {A : Type 0} (n : Position A) (path : List ℕ) → count_under (tree_at n) path slot ≡ sum_under path slot n
  under_tree n path =
      sum_where-map reverse (λ stack. starts_with nat_eq (outer stack) path) (rows n)
      ∙ sum_where-same (λ p. starts_with nat_eq (outer (reverse p)) path) (λ p. starts_with nat_eq p path)
      (λ p. ap (λ q. starts_with nat_eq q path) (reverse-reverse p)) (rows n)

  -- what the children from one on count, whose frames count nothing
  pub sum_from_child : {A : Type 0} {n : Node A} {i : ℕ} {d : ℕ × Node A} → IsChildAt n i d
      → child_sum (drop i (children (inside n))) ≡ plus_count (sum_under [] slot (inside d.1)) (child_sum (drop (i + 1) (children (inside n))))
  sum_from_child {A} {n} {i} {d} at =
      let rest : Count = child_sum (drop (i + 1) (children (inside n))) in
      ap child_sum (from_child at) ∙ child_sum-cons (top_of d) (drop (i + 1) (children (inside n)))
      ∙ ap (λ c. plus_count c rest) (sum_inside (frames d.1) d.1)

  -- what was summed so far and what a child counts are no more than all
  pub child_room : {A : Type 0} {n : Node A} {i : ℕ} {d : ℕ × Node A} → IsChildAt n i d → (so_far all : Count)
      → plus_count so_far (child_sum (drop i (children (inside n)))) ≡ all
      → total_of (plus_count so_far (sum_under [] slot (inside d.1))) ≤ total_of all
  child_room at so_far all is = let whole = ap total_of (ap (plus_count so_far) (sym (sum_from_child at)) ∙ is) in omega (arith, whole)
