-- The rows of a position count what it counts there and further in, and they are in the order of paths and slots.
use Rattle.std.proofs.Common.{◌≡◌, ℕ, List, [], ◌∷◌, ◌++◌, map, Option, Some, None, T, true, false, cond, unwrap_or, append-nil, refl, sym, ◌∙◌, ap}
use Rattle.std.specs.Prelude.{option_and_then}
use Rattle.std.specs.List.{flat_map}
use Rattle.std.specs.Ordering.{nat_cmp, is_eq, on, then_cmp, eq_by_cmp}
use Rattle.std.specs.Cmp.{IsTotalOrder, nat_cmp_total, tied_itself, on_total, then_total}
use Rattle.std.specs.Cmp.Lexicographic.{slice_cmp, nat_list_cmp_total}
use Rattle.std.specs.FinMap.{nat_cmp-IsAntisymmetric}
use Rattle.std.specs.FinMap.Entries.{find, below_all}
use Rattle.std.specs.declared.cmp.Ordering.{Ordering}
use Rattle.std.specs.declared.cmp.Ordering.TheVariants.{Less, Equal, Greater}
use Rattle.htl_event.specs.declared.slot.Slot.{Slot}
use Rattle.htl_event.specs.declared.slot.Count.{Count}
use Rattle.htl_event.specs.Tallies.{zero_count, IsPositive}
use Rattle.htl_sorted.specs.Entries.{IsSorted, Each}
use Rattle.htl_lemmas.proofs.Tests.{both_left, both_right, less}
use Rattle.htl_sorted.proofs.Finds.{find_below, below_tied, each_found, find-append_left}
use Rattle.htl_sorted.proofs.Finds.{find-append_right, below_append, AllBelow, sorted_append, each_from_found}
use Rattle.htl_sorted.proofs.ChangedKeys.{find-map_other, find-map_key, below-map, sorted-map_key}
use Rattle.htl_tree.specs.declared.node.Node.{Node}
use Rattle.htl_tree.specs.declared.node.Node.TheFolds.{fold_out-Node}
use Rattle.htl_event.specs.SlotOrder.{slot_cmp}
use Rattle.htl_event.specs.OrderLaws.{slot_total}
use Rattle.htl_tree.specs.Trees.{Tree}
use Rattle.htl_tree.specs.Nodes.{Position, children_of, top, tops, tally, counts, children, at_child, below}
use Rattle.htl_tree.specs.Nodes.{rows_of, rows, rows_step, IsNormal}
use Rattle.htl_tree.proofs.CountAdded.{normal_here, normal_child}
use Rattle.htl_tree.proofs.Positions.{ind_position}

-- by path, and then by slot
abbrev pub path_cmp : List ℕ × Slot → List ℕ × Slot → Ordering
path_cmp = then_cmp (on (λ key. key.0) (slice_cmp nat_cmp)) (on (λ key. key.1) slot_cmp)

-- the order of rows by path and slot is total
pub path_total : IsTotalOrder path_cmp
path_total = then_total (on_total (λ (key : List ℕ × Slot). key.0) nat_list_cmp_total)
    (on_total (λ (key : List ℕ × Slot). key.1) slot_total)

abbrev at_node : Slot → List ℕ × Slot
at_node s = ([], s)

abbrev inward : ℕ → List ℕ × Slot → List ℕ × Slot
inward f key = (f ∷ key.0, key.1)

-- the rows of children
abbrev pub child_rows : {A : Type 0} → List (ℕ × Position A) → Tree
child_rows ks = flat_map (λ k. map (λ row. below k.0 row) (rows k.1)) ks

-- the rows of the node itself
abbrev pub rows_here : List (Slot × Count) → Tree
rows_here es = map (λ e. (([], e.0), e.1)) es

-- a node's rows are those of its top
pub rows_top : {A : Type 0} (n : Node A) → rows_of n ≡ rows (top n)
rows_top {A} n = fold_out-Node A Tree rows_step n

child_rows-tops : {A : Type 0} (ks : List (ℕ × Node A))
    → flat_map (λ (k : ℕ × Tree). map (λ row. below k.0 row) k.1) (map (λ k. (k.0, rows_of k.1)) ks) ≡ child_rows (tops ks)
child_rows-tops [] = refl
child_rows-tops (k ∷ ks) = ap (λ t. map (λ row. below k.0 row) t ++ flat_map (λ (j : ℕ × Tree). map (λ row. below j.0 row) j.1)
    (map (λ j. (j.0, rows_of j.1)) ks)) (rows_top k.1)
    ∙ ap (λ l. map (λ row. below k.0 row) (rows (top k.1)) ++ l) (child_rows-tops ks)

-- the rows of a position are those of its counts and those of its children
pub rows_is : {A : Type 0} (c : Position A) → rows c ≡ rows_here (counts c) ++ child_rows (children c)
rows_is {A} c = of c.0
  where
    of : (fs : List ℕ) → rows (fs, c.1) ≡ rows_here (counts (fs, c.1)) ++ child_rows (children (fs, c.1))
    of [] = ap (λ l. rows_here (counts ([], c.1)) ++ l) (child_rows-tops (children_of c.1))
    of (f ∷ fs) = sym (append-nil (map (λ row. below f row) (rows (fs, c.1))))

inward_cmp : (f : ℕ) (k j : List ℕ × Slot) → path_cmp (inward f k) (inward f j) ≡ path_cmp k j
inward_cmp f k j = rw (tied_itself nat_cmp_total f) refl

other_frame : (f g : ℕ) (r : Ordering) → nat_cmp f g ≡ r → is_eq r ≡ false → (p : List ℕ) (s : Slot) (k : List ℕ × Slot)
    → eq_by_cmp path_cmp (f ∷ p, s) (inward g k) ≡ false
other_frame f g Less e apart p s k = rw e refl
other_frame f g Equal e apart p s k = let never : true ≡ false = apart in absurd (cc)
other_frame f g Greater e apart p s k = rw e refl

-- ---- what is found

find_here : (s : Slot) (es : List (Slot × Count)) → find path_cmp ([], s) (rows_here es) ≡ find slot_cmp s es
find_here s es = find-map_key at_node path_cmp slot_cmp (λ k j. refl) s es

no_rows_here : (f : ℕ) (p : List ℕ) (s : Slot) (es : List (Slot × Count)) → find path_cmp (f ∷ p, s) (rows_here es) ≡ None
no_rows_here f p s es = find-map_other at_node path_cmp (f ∷ p, s) (λ k. refl) es

no_child_here : {A : Type 0} (s : Slot) (ks : List (ℕ × Position A)) → find path_cmp ([], s) (child_rows ks) ≡ None
no_child_here s [] = refl
no_child_here s (k ∷ ks) = find-append_right path_cmp ([], s) (map (λ row. below k.0 row) (rows k.1)) (child_rows ks)
    (find-map_other (inward k.0) path_cmp ([], s) (λ _. refl) (rows k.1)) ∙ no_child_here s ks

find_child : {A : Type 0} (f : ℕ) (p : List ℕ) (s : Slot) (ks : List (ℕ × Position A)) → IsSorted nat_cmp ks
    → find path_cmp (f ∷ p, s) (child_rows ks) ≡ option_and_then (λ c. find path_cmp (p, s) (rows c)) (find nat_cmp f ks)
find_child f p s [] sorted = refl
find_child {A} f p s (k ∷ ks) sorted =
    let first : Tree = map (λ row. below k.0 row) (rows k.1) in
    let at : Option (Position A) → Option Count = option_and_then (λ c. find path_cmp (p, s) (rows c)) in
    elim (nat_cmp f k.0) as (λ r. nat_cmp f k.0 ≡ r
    → find path_cmp (f ∷ p, s) (first ++ child_rows ks) ≡ at (cond (is_eq r) (Some k.1) (find nat_cmp f ks))) [
      | Less ↦ λ c. find-append_right path_cmp (f ∷ p, s) first (child_rows ks)
          (find-map_other (inward k.0) path_cmp (f ∷ p, s) (λ j. other_frame f k.0 Less c refl p s j) (rows k.1))
          ∙ find_child f p s ks (both_right _ _ sorted)
      | Greater ↦ λ c. find-append_right path_cmp (f ∷ p, s) first (child_rows ks)
          (find-map_other (inward k.0) path_cmp (f ∷ p, s) (λ j. other_frame f k.0 Greater c refl p s j) (rows k.1))
          ∙ find_child f p s ks (both_right _ _ sorted)
      | Equal ↦ λ c.
          let same : f ≡ k.0 = nat_cmp-IsAntisymmetric f k.0 c in
          let gone : find nat_cmp f ks ≡ None =
          find_below nat_cmp nat_cmp_total f ks (below_tied nat_cmp nat_cmp_total f k.0 ks c (both_left _ _ sorted)) in
          let rest : find path_cmp (f ∷ p, s) (child_rows ks) ≡ None = find_child f p s ks (both_right _ _ sorted) ∙ ap at gone in
          find-append_left path_cmp (f ∷ p, s) first (child_rows ks) rest
          ∙ rw same (find-map_key (inward k.0) path_cmp path_cmp (inward_cmp k.0) (p, s) (rows k.1))
    ] refl

abbrev found : {A : Type 0} → List ℕ → Slot → Position A → Option Count
found [] s n = find slot_cmp s (counts n)
found (f ∷ p) s n = option_and_then (λ c. found p s c) (find nat_cmp f (children n))

find_rows : {A : Type 0} (p : List ℕ) (s : Slot) (n : Position A) → IsNormal n → find path_cmp (p, s) (rows n) ≡ found p s n
find_rows [] s n h = ap (find path_cmp ([], s)) (rows_is n)
    ∙ find-append_left path_cmp ([], s) (rows_here (counts n)) (child_rows (children n)) (no_child_here s (children n)) ∙ find_here s (counts n)
find_rows (f ∷ p) s n h =
    ap (find path_cmp (f ∷ p, s)) (rows_is n) ∙ find-append_right path_cmp (f ∷ p, s) (rows_here (counts n)) (child_rows (children n))
    (no_rows_here f p s (counts n)) ∙ find_child f p s (children n) (normal_here n h).frames
    ∙ elim (find nat_cmp f (children n)) as (λ o. find nat_cmp f (children n) ≡ o
    → option_and_then (λ c. find path_cmp (p, s) (rows c)) o ≡ option_and_then (λ c. found p s c) o) [
      | None ↦ λ e. refl
      | Some c ↦ λ e. find_rows p s c (normal_child n h f c e)
    ] refl

tally_found : {A : Type 0} (p : List ℕ) (s : Slot) (n : Position A) → tally p s n ≡ unwrap_or (found p s n) zero_count
tally_found [] s n = refl
tally_found {A} (f ∷ p) s n = elim (find nat_cmp f (children n))
    as (λ o. at_child (λ c. tally p s c) o ≡ unwrap_or (option_and_then (λ (c : Position A). found p s c) o) zero_count) [
      | None ↦ refl
      | Some c ↦ tally_found p s c
    ]

-- the rows count what the node counts
pub tally_rows : {A : Type 0} (p : List ℕ) (s : Slot) (n : Position A) → IsNormal n
    → unwrap_or (find path_cmp (p, s) (rows n)) zero_count ≡ tally p s n
tally_rows p s n h = ap (λ (o : Option Count). unwrap_or o zero_count) (find_rows p s n h) ∙ sym (tally_found p s n)

found_positive : {A : Type 0} (p : List ℕ) (s : Slot) (n : Position A) → IsNormal n → (v : Count) → found p s n ≡ Some v → IsPositive v
found_positive [] s n h v e = each_found slot_cmp IsPositive s v (counts n) (normal_here n h).positive e
found_positive {A} (f ∷ p) s n h v e =
    (elim (find nat_cmp f (children n)) as (λ o. find nat_cmp f (children n) ≡ o → option_and_then (λ (c : Position A). found p s c) o ≡ Some v
    → IsPositive v) [
      | None ↦ λ is none. absurd (cc)
      | Some c ↦ λ is there. found_positive p s c (normal_child n h f c is) v there
    ]) refl e

-- ---- their order

here_below : {A : Type 0} (s : Slot) (ks : List (ℕ × Position A)) → T (below_all path_cmp ([], s) (child_rows ks))
here_below s [] = tt
here_below s (k ∷ ks) = below_append path_cmp ([], s) (map (λ row. below k.0 row) (rows k.1)) (child_rows ks)
    (below-map (inward k.0) path_cmp ([], s) (λ _. refl) (rows k.1)) (here_below s ks)

all_here_below : {A : Type 0} (es : List (Slot × Count)) (ks : List (ℕ × Position A)) → AllBelow path_cmp (rows_here es) (child_rows ks)
all_here_below [] ks = tt
all_here_below (e ∷ es) ks = (here_below e.0 ks, all_here_below es ks)

child_below : {A : Type 0} (f : ℕ) (key : List ℕ × Slot) (ks : List (ℕ × Position A)) → T (below_all nat_cmp f ks)
    → T (below_all path_cmp (inward f key) (child_rows ks))
child_below f key [] h = tt
child_below f key (k ∷ ks) h =
    let lt : nat_cmp f k.0 ≡ Less = less _ (both_left _ _ h) in
    below_append path_cmp (inward f key) (map (λ row. below k.0 row) (rows k.1)) (child_rows ks)
    (below-map (inward k.0) path_cmp (inward f key) (λ _. rw lt refl) (rows k.1)) (child_below f key ks (both_right _ _ h))

all_child_below : {A : Type 0} (f : ℕ) (t : Tree) (ks : List (ℕ × Position A)) → T (below_all nat_cmp f ks)
    → AllBelow path_cmp (map (λ row. below f row) t) (child_rows ks)
all_child_below f [] ks h = tt
all_child_below f (row ∷ t) ks h = (child_below f row.0 ks h, all_child_below f t ks h)

positions_sorted : {A : Type 0} (ks : List (ℕ × Position A)) → IsSorted nat_cmp ks → Each (λ c. IsSorted path_cmp (rows c)) ks
    → IsSorted path_cmp (child_rows ks)
positions_sorted [] sorted each = tt
positions_sorted (k ∷ ks) sorted each =
    sorted_append path_cmp (map (λ row. below k.0 row) (rows k.1)) (child_rows ks)
    (sorted-map_key (inward k.0) path_cmp path_cmp (inward_cmp k.0) (rows k.1) each.0)
    (positions_sorted ks (both_right _ _ sorted) each.1)
    (all_child_below k.0 (rows k.1) ks (both_left _ _ sorted))

-- what holds of each normal child's children
abbrev HasOrder : {A : Type 0} → Position A → Type 0
HasOrder n = IsNormal n → IsSorted path_cmp (rows n)

each_inner : {A : Type 0} (P : Position A → Type 0) (ks : List (ℕ × ((c : Position A) × (IsNormal c → P c))))
    → Each (λ c. IsNormal c) (map (λ e. (e.0, e.1.0)) ks) → Each P (map (λ e. (e.0, e.1.0)) ks)
each_inner P [] h = tt
each_inner P (k ∷ ks) h = (k.1.1 h.0, each_inner P ks h.1)

-- the children of a position in normal form are in normal form
pub children_normal : {A : Type 0} (n : Position A) → IsNormal n → Each (λ c. IsNormal c) (children n)
children_normal n h = each_from_found nat_cmp nat_cmp_total (λ c. IsNormal c) (children n) (normal_here n h).frames
    (λ f c e. normal_child n h f c e)

-- the rows of a position in normal form are in the order of paths and slots
pub rows_sorted : {A : Type 0} (n : Position A) → IsNormal n → IsSorted path_cmp (rows n)
rows_sorted {A} = ind_position (λ n. HasOrder n) (λ n ks inner h.
    let each : Each (λ c. IsSorted path_cmp (rows c)) (children n) =
    rw inner (each_inner (λ c. IsSorted path_cmp (rows c)) ks (rw inner at (children_normal n h))) in
    let here = normal_here n h in
    rw (rows_is n) (sorted_append path_cmp (rows_here (counts n)) (child_rows (children n))
    (sorted-map_key at_node path_cmp slot_cmp (λ k j. refl) (counts n) here.slots) (positions_sorted (children n) here.frames each)
    (all_here_below (counts n) (children n))))

-- no row of a position in normal form counts zero
pub rows_positive : {A : Type 0} (n : Position A) → IsNormal n → Each IsPositive (rows n)
rows_positive n h = each_from_found path_cmp path_total IsPositive (rows n) (rows_sorted n h)
    (λ k v e. found_positive k.0 k.1 n h v (sym (find_rows k.0 k.1 n h) ∙ e))
