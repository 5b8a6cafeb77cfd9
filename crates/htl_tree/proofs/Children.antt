-- The positions one frame further in are those at the frames, one by one, in normal form and lower.
use Rattle.std.proofs.Common.{◌≡◌, ℕ, zero, suc, ◌+◌, ◌<◌, ◌≤◌, List, [], ◌∷◌, ◌++◌, length, map, max}
use Rattle.std.proofs.Common.{take, drop, get_or, Some, append_assoc, refl, sym, ◌∙◌, ap, subst, arith}
use Rattle.std.specs.Cmp.{nat_cmp_total}
use Rattle.std.specs.Ordering.{nat_cmp}
use Rattle.std.specs.FinMap.Entries.{find}
use Rattle.std.proofs.lemmas.List.{map-id, take_more, drop_more, drop_all, get_or-map, length-map}
use Rattle.htl_sorted.specs.Entries.{IsSorted, entries}
use Rattle.htl_sorted.specs.Made.{Made}
use Rattle.htl_sorted.proofs.Rows.{row_found}
use Rattle.htl_tree.specs.declared.node.Node.{Node}
use Rattle.htl_tree.specs.declared.node.Node.TheFolds.{fold_out-Node}
use Rattle.htl_tree.specs.Nodes.{Position, top, inside, tops, children_of, children, max_of, height_of, height, heights, height_step}
use Rattle.htl_tree.specs.Nodes.{IsNormal, IsCopy, AppendsCopies}
use Rattle.htl_tree.proofs.CountAdded.{normal_here, normal_child}
use Rattle.htl_tree.proofs.Tops.{top_of}

-- ---- the positions one frame further in

-- the child that is found at the frame of a position
pub found_at_index : {A : Type 0} (n : Position A) → IsNormal n → (i : ℕ) (d : ℕ × Position A) → i < length (children n) → d ≡ get_or (children n) i d
    → find nat_cmp d.0 (children n) ≡ Some d.1
found_at_index {A} n h i d lt is =
    let sorted : IsSorted nat_cmp (entries (λ (e : ℕ × Position A). e.0) (λ e. e.1) (children n)) =
    subst (λ es. IsSorted nat_cmp es) (sym (map-id (children n))) (normal_here n h).frames in
    subst (λ es. find nat_cmp d.0 es ≡ Some d.1) (map-id (children n))
    (row_found (λ (e : ℕ × Position A). e.0) (λ e. e.1) nat_cmp_total (children n) sorted i d lt is)

-- each child of a position in normal form is in normal form
pub normal_at_index : {A : Type 0} (n : Position A) → IsNormal n → (i : ℕ) (d : ℕ × Position A) → i < length (children n) → d ≡ get_or (children n) i d
    → IsNormal d.1
normal_at_index n h i d lt is = normal_child n h d.0 d.1 (found_at_index n h i d lt is)

height_below : {A : Type 0} (es : List (ℕ × Position A)) (i : ℕ) (d : ℕ × Position A) → i < length es → height (get_or es i d).1 ≤ heights es
height_below [] i d lt = absurd (omega arith)
height_below (e ∷ es) zero d lt = omega arith
height_below (e ∷ es) (suc i) d lt = let h = height_below es i d (omega arith) in omega (arith, h)

-- a child is no higher than the highest
pub height_at : {A : Type 0} (ks : List (ℕ × Position A)) (i : ℕ) (d : ℕ × Position A) → i < length ks → d ≡ get_or ks i d
    → height d.1 ≤ heights ks
height_at {A} ks i d lt is =
    let at : height (get_or ks i d).1 ≤ heights ks = height_below ks i d lt in
    let same : height d.1 ≡ height (get_or ks i d).1 = ap (λ (e : ℕ × Position A). height e.1) is in
    omega arith

-- a node's height is that of its top
pub height_top : {A : Type 0} (n : Node A) → height_of n ≡ height (top n)
height_top {A} n = fold_out-Node A ℕ height_step n

heights-tops : {A : Type 0} (ks : List (ℕ × Node A)) → max_of (map (λ k. (k.0, height_of k.1)) ks) ≡ heights (tops ks)
heights-tops [] = refl
heights-tops (k ∷ ks) = ap (λ h. max h (max_of (map (λ j. (j.0, height_of j.1)) ks))) (height_top k.1)
    ∙ ap (max (height (top k.1))) (heights-tops ks)

-- a position is one higher than the highest of those one frame further in
pub height_is : {A : Type 0} (c : Position A) → height c ≡ heights (children c) + 1
height_is {A} c = of c.0
  where
    of : (fs : List ℕ) → height (fs, c.1) ≡ heights (children (fs, c.1)) + 1
    of [] = let same = heights-tops (children_of c.1) in omega (arith, same)
    of (f ∷ fs) = omega arith

-- a node is no higher than the positions before it
pub inside_height : {A : Type 0} (fs : List ℕ) (n : Node A) → height (inside n) ≤ height (fs, n)
inside_height fs n = omega arith

-- a child is lower
pub lower_at_index : {A : Type 0} (n : Position A) (i : ℕ) (d : ℕ × Position A) → i < length (children n) → d ≡ get_or (children n) i d → height d.1 < height n
lower_at_index n i d lt is = let at = height_at (children n) i d lt is in let all = height_is n in omega (arith, at, all)

-- ---- the children of a node, one by one

-- the position at an index is the top of this child
pub record IsChildAt {A : Type 0} (n : Node A) (i : ℕ) (d : ℕ × Node A) : Type 0 where
  pub within : i < length (children (inside n))
  pub value : top_of d ≡ get_or (children (inside n)) i (top_of d)

module _ {A : Type 0} (n : Node A) (ks : List (ℕ × Node A)) (is : ks ≡ children_of n) (i : ℕ) where
  -- the child at an index is the top of the node that stands there
  pub child_at : (d : ℕ × Node A) → i < length ks → d ≡ get_or ks i d → IsChildAt n i d
  child_at d lt at = record {
    within = subst (λ l. i < length (tops l)) is (omega (arith, length-map ks (λ (k : ℕ × Node A). top_of k), lt));
    value = subst (λ l. top_of d ≡ get_or (tops l) i (top_of d)) is
        (ap (λ (k : ℕ × Node A). top_of k) at ∙ sym (get_or-map (λ (k : ℕ × Node A). top_of k) ks i d (top_of d) lt));
  }

  -- after the last child is no position
  pub no_child_at : length ks ≤ i → drop i (children (inside n)) ≡ []
  no_child_at past = drop_all i (children (inside n)) (subst (λ l. length (tops l) ≤ i) is
      (omega (arith, length-map ks (λ (k : ℕ × Node A). top_of k), past)))

-- the positions from a child on
pub from_child : {A : Type 0} {n : Node A} {i : ℕ} {d : ℕ × Node A} → IsChildAt n i d
    → drop i (children (inside n)) ≡ top_of d ∷ drop (i + 1) (children (inside n))
from_child {A} {n} {i} {d} at = drop_more (children (inside n)) i (top_of d) at.within
    ∙ ap (λ (k : ℕ × Position A). k ∷ drop (i + 1) (children (inside n))) (sym at.value)

-- a child is in order
pub child_normal : {A : Type 0} {n : Node A} {i : ℕ} {d : ℕ × Node A} → IsChildAt n i d → IsNormal (inside n) → IsNormal (top d.1)
child_normal {A} {n} {i} {d} at h = normal_at_index (inside n) h i (top_of d) at.within at.value

-- and lower than the node
pub child_height : {A : Type 0} {n : Node A} {i : ℕ} {d : ℕ × Node A} → IsChildAt n i d → height (top d.1) < height (inside n)
child_height {A} {n} {i} {d} at = lower_at_index (inside n) i (top_of d) at.within at.value

-- ---- copies

made_push : {A : Type 0} (P : Position A → Position A → Type 0) (xs ys : List (ℕ × Position A)) (x y : ℕ × Position A) → Made P xs ys → x.0 ≡ y.0
    → P x.1 y.1 → Made P (xs ++ x ∷ []) (ys ++ y ∷ [])
made_push P [] [] x y m k p = (k, p, tt)
made_push P [] (b ∷ ys) x y m k p = absurd m
made_push P (a ∷ xs) [] x y m k p = absurd m
made_push P (a ∷ xs) (b ∷ ys) x y m k p = (m.0, m.1, made_push P xs ys x y m.2 k p)

-- one more copy
pub appends_more : {A : Type 0} (ks old mid new : List (ℕ × Position A)) (i : ℕ) (d : ℕ × Position A) (c : Position A)
    → AppendsCopies (take i ks) old mid → i < length ks → d ≡ get_or ks i d → IsCopy d.1 c → new ≡ mid ++ (d.0, c) ∷ []
    → AppendsCopies (take (i + 1) ks) old new
appends_more {A} ks old mid new i d c (copies, so_far, made) lt is copy more = (
  copies ++ (d.0, c) ∷ [],
  more ∙ ap (λ l. l ++ (d.0, c) ∷ []) so_far ∙ append_assoc old copies ((d.0, c) ∷ []),
  rw (take_more ks i d lt, sym is) (made_push (λ k c. IsCopy k c) (take i ks) copies d (d.0, c) made refl copy),
)
