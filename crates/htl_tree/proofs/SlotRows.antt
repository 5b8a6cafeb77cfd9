-- The rows of one slot, the slots and the counts of a tree are listed from node to node, the node's own first.
use Rattle.std.proofs.Common.{◌≡◌, ℕ, zero, suc, ◌+◌, ◌<◌, ◌≤◌, List, [], ◌∷◌, ◌++◌, length}
use Rattle.std.proofs.Common.{map, reverse, drop, get_or, Option, Some, None, T, Bool, true, false, cond}
use Rattle.std.proofs.Common.{unwrap_or, append_assoc, append-nil, refl, sym, ◌∙◌, ap, subst, arith, inl, inr}
use Rattle.std.specs.Prelude.{Contains, ◌↔◌}
use Rattle.std.specs.List.{AllByRecursion}
use Rattle.std.specs.List.Sorted.{IsStrictlySortedBy}
use Rattle.std.specs.Ordering.{is_eq, ordering_then}
use Rattle.std.specs.Cmp.{tied_itself}
use Rattle.std.specs.FinMap.Entries.{find, below_all}
use Rattle.std.specs.declared.cmp.Ordering.TheVariants.{Less, Equal, Greater}
use Rattle.std.proofs.lemmas.List.{drop_more, map-append}
use Rattle.std.proofs.lemmas.List.Elements.{filter-append}
use Rattle.htl_event.specs.declared.slot.Slot.{Slot}
use Rattle.htl_event.specs.declared.slot.Count.{Count}
use Rattle.htl_event.specs.Slots.{same_slot}
use Rattle.htl_event.specs.Stacks.{stack_cmp}
use Rattle.htl_event.specs.Members.{IsRising}
use Rattle.htl_event.specs.Tallies.{zero_count, IsPositive, ByStack}
use Rattle.htl_event.proofs.Members.{Contains-here, Contains-there, Contains-cases, Contains-nil, all_left, all_right}
use Rattle.htl_sorted.specs.Entries.{IsSorted}
use Rattle.htl_lemmas.proofs.Tests.{both_left, both_right, less}
use Rattle.htl_sorted.proofs.Finds.{find_first, each_found, found_behind}
use Rattle.htl_event.specs.SlotOrder.{slot_cmp}
use Rattle.htl_event.specs.OrderLaws.{slot_total}
use Rattle.htl_tree.specs.Trees.{Tree, AllShort, key_cmp, count_at, IsTree, ListsRows, ListsSlots, BySlot}
use Rattle.htl_tree.specs.declared.node.Node.{Node}
use Rattle.htl_tree.specs.Nodes.{Position, frames, top, inside, counts, children, below, rows, tree_at}
use Rattle.htl_tree.specs.HasSlot.{has_slot}
use Rattle.htl_tree.specs.declared.slots.Slots.{Slots}
use Rattle.htl_tree.specs.Nodes.{rows_at, rows_of_counts, picked, asked_of, counts_in, IsShortFrom, slots_of}
use Rattle.htl_tree.proofs.Children.{IsChildAt, from_child}
use Rattle.htl_tree.proofs.NodeRows.{rows_here, child_rows, rows_is}
use Rattle.htl_tree.proofs.TreesAsLists.{key_total, key_same, nothing_is_tree}
use Rattle.htl_tree.proofs.Tops.{top_of}
use Rattle.htl_tree.proofs.Under.{same_slot_Decides}

abbrev Row : Type 0
Row = (List ℕ × Slot) × Count

module _ (p : Slot → Bool) where
  pub rows_at-append : (path : List ℕ) (xs ys : Tree) → rows_at p path (xs ++ ys) ≡ rows_at p path xs ++ rows_at p path ys
  rows_at-append path [] ys = refl
  rows_at-append path (x ∷ xs) ys =
      elim (p x.0.1) as (λ b. cond b (((x.0.1, reverse (path ++ x.0.0)), x.1) ∷ rows_at p path (xs ++ ys)) (rows_at p path (xs ++ ys))
      ≡ cond b (((x.0.1, reverse (path ++ x.0.0)), x.1) ∷ rows_at p path xs) (rows_at p path xs) ++ rows_at p path ys) [
        | true ↦ ap (λ l. ((x.0.1, reverse (path ++ x.0.0)), x.1) ∷ l) (rows_at-append path xs ys)
        | false ↦ rows_at-append path xs ys
      ]

  rows_at-below : (path : List ℕ) (f : ℕ) (t : Tree) → rows_at p path (map (λ row. below f row) t) ≡ rows_at p (path ++ f ∷ []) t
  rows_at-below path f [] = refl
  rows_at-below path f (row ∷ t) =
      ap (λ k. cond (p row.0.1) (((row.0.1, reverse k), row.1) ∷ rows_at p path (map (λ row. below f row) t))
      (rows_at p path (map (λ row. below f row) t))) (sym (append_assoc path (f ∷ []) row.0.0))
      ∙ ap (λ l. cond (p row.0.1) (((row.0.1, reverse ((path ++ f ∷ []) ++ row.0.0)), row.1) ∷ l) l) (rows_at-below path f t)

  rows_at-here : (path : List ℕ) (es : List (Slot × Count)) → rows_at p path (rows_here es) ≡ rows_of_counts p path es
  rows_at-here path [] = refl
  rows_at-here path (e ∷ es) =
      ap (λ k. cond (p e.0) (((e.0, reverse k), e.1) ∷ rows_at p path (rows_here es)) (rows_at p path (rows_here es))) (append-nil path)
      ∙ ap (λ l. cond (p e.0) (((e.0, reverse path), e.1) ∷ l) l) (rows_at-here path es)

  -- the rows of a node are those of its counts and those of its children
  pub rows_at-node : {A : Type 0} (n : Position A) (path : List ℕ)
      → rows_at p path (rows n) ≡ rows_of_counts p path (counts n) ++ rows_at p path (child_rows (children n))
  rows_at-node n path = ap (rows_at p path) (rows_is n) ∙ rows_at-append path (rows_here (counts n)) (child_rows (children n))
      ∙ ap (λ l. l ++ rows_at p path (child_rows (children n))) (rows_at-here path (counts n))

  -- the frames before a node are part of the path
  pub rows_at-inside : {A : Type 0} (fs : List ℕ) (n : Node A) (path : List ℕ)
      → rows_at p path (rows (fs, n)) ≡ rows_at p (path ++ fs) (rows (inside n))
  rows_at-inside [] n path = ap (λ k. rows_at p k (rows (inside n))) (sym (append-nil path))
  rows_at-inside (f ∷ fs) n path = rows_at-below path f (rows (fs, n)) ∙ rows_at-inside fs n (path ++ f ∷ [])
      ∙ ap (λ k. rows_at p k (rows (inside n))) (append_assoc path (f ∷ []) fs)

  -- those of the children from one on
  pub rows_from_child : {A : Type 0} {n : Node A} {i : ℕ} {d : ℕ × Node A} → IsChildAt n i d → (path : List ℕ)
      → rows_at p path (child_rows (drop i (children (inside n))))
      ≡ rows_at p (path ++ d.0 ∷ []) (rows (top d.1)) ++ rows_at p path (child_rows (drop (i + 1) (children (inside n))))
  rows_from_child {A} {n} {i} {d} at path =
      let rest = child_rows (drop (i + 1) (children (inside n))) in
      ap (λ l. rows_at p path (child_rows l)) (from_child at)
      ∙ rows_at-append path (map (λ row. below d.0 row) (rows (top d.1))) rest
      ∙ ap (λ l. l ++ rows_at p path rest) (rows_at-below path d.0 (rows (top d.1)))

  -- the rows of a tree whose slots pass are those of its root's position
  pub picked_tree : {A : Type 0} (n : Position A) → picked p (tree_at n) ≡ rows_at p [] (rows n)
  picked_tree n = of (rows n)
    where
      of : (t : Tree) → picked p (map (λ row. ((reverse row.0.0, row.0.1), row.1)) t) ≡ rows_at p [] t
      of [] = refl
      of (row ∷ t) = ap (λ l. cond (p row.0.1) (((row.0.1, reverse row.0.0), row.1) ∷ l) l) (of t)

  -- one count of the node more
  pub rows_of_counts-drop : (path : List ℕ) (es : List (Slot × Count)) (i : ℕ) (d : Slot × Count) → i < length es
      → rows_of_counts p path (drop i es) ≡ cond (p (get_or es i d).0)
      ((((get_or es i d).0, reverse path), (get_or es i d).1) ∷ rows_of_counts p path (drop (i + 1) es)) (rows_of_counts p path (drop (i + 1) es))
  rows_of_counts-drop path es i d lt = ap (rows_of_counts p path) (drop_more es i d lt)

-- ---- no stack too long

short_counts : (depth : ℕ) (es : List (Slot × Count)) (i : ℕ) → IsShortFrom depth (rows_here es) → i < length es → depth ≤ 64
short_counts depth [] i h lt = absurd (omega arith)
short_counts depth (e ∷ es) i h lt = omega (arith, h.0)

-- a node that counts something is no deeper than a stack is long
pub short_here : {A : Type 0} (n : Position A) (depth : ℕ) → IsShortFrom depth (rows n) → 0 < length (counts n) → depth ≤ 64
short_here n depth h lt = short_counts depth (counts n) 0
    (all_left (λ (row : Row). depth + length row.0.0 ≤ 64) (rows_here (counts n)) (child_rows (children n))
    (subst (λ t. IsShortFrom depth t) (rows_is n) h)) lt

-- where stacks with one frame more before them aren't too long, they aren't from one frame further in
pub short_below : (depth f : ℕ) (t : Tree) → IsShortFrom depth (map (λ row. below f row) t) → IsShortFrom (depth + 1) t
short_below depth f [] h = tt
short_below depth f (row ∷ t) h = (omega (arith, h.0), short_below depth f t h.1)

-- a node is as deep as the frames before it lead
pub short_inside : {A : Type 0} (fs : List ℕ) (n : Node A) (depth : ℕ) → IsShortFrom depth (rows (fs, n))
    → IsShortFrom (depth + length fs) (rows (inside n))
short_inside [] n depth h =
    let here : depth ≡ depth + length {A = ℕ} [] = omega arith in subst (λ d. IsShortFrom d (rows (inside n))) here h
short_inside (f ∷ fs) n depth h =
    let further : depth + 1 + length fs ≡ depth + length (f ∷ fs) = omega arith in
    subst (λ d. IsShortFrom d (rows (inside n))) further (short_inside fs n (depth + 1) (short_below depth f (rows (fs, n)) h))

short_at_index : {A : Type 0} (depth : ℕ) (ks : List (ℕ × Position A)) (i : ℕ) (k : ℕ × Position A) → IsShortFrom depth (child_rows ks) → i < length ks
    → k ≡ get_or ks i k → IsShortFrom (depth + 1) (rows k.1)
short_at_index depth [] i k h lt is = absurd (omega arith)
short_at_index {A} depth (j ∷ ks) zero k h lt is =
    subst (λ (e : ℕ × Position A). IsShortFrom (depth + 1) (rows e.1)) (sym is)
    (short_below depth j.0 (rows j.1)
    (all_left (λ (row : Row). depth + length row.0.0 ≤ 64) (map (λ row. below j.0 row) (rows j.1)) (child_rows ks) h))
short_at_index depth (j ∷ ks) (suc i) k h lt is = short_at_index depth ks i k
    (all_right (λ (row : Row). depth + length row.0.0 ≤ 64) (map (λ row. below j.0 row) (rows j.1)) (child_rows ks) h) (omega arith) is

-- where the stacks from a node on aren't too long, those from a child on aren't
pub short_child : {A : Type 0} {n : Node A} {i : ℕ} {d : ℕ × Node A} → IsChildAt n i d → (depth : ℕ) → IsShortFrom depth (rows (inside n))
    → IsShortFrom (depth + 1) (rows (top d.1))
short_child {A} {n} {i} {d} at depth h =
    let ks : List (ℕ × Position A) = children (inside n) in
    short_at_index depth ks i (top_of d) (all_right (λ (row : Row). depth + length row.0.0 ≤ 64) (rows_here (counts (inside n))) (child_rows ks)
    (subst (λ t. IsShortFrom depth t) (rows_is (inside n)) h)) at.within at.value

-- where no stack of a tree is too long, none is from the root on
pub short_root : (t : Tree) → AllShort t → IsShortFrom 0 t
short_root [] h = tt
short_root (row ∷ t) h = (omega (arith, h.0), short_root t h.1)

-- ---- the rows of a whole tree

-- a slot's rows of a tree
abbrev pub listed : Slot → Tree → List (List ℕ × Count)
listed slot [] = []
listed slot (row ∷ rows) = cond (same_slot slot row.0.1) ((row.0.0, row.1) ∷ listed slot rows) (listed slot rows)

module _ (slot : Slot) where
  -- rows of one slot are in stack order
  stack_below : (a b : List ℕ) → key_cmp (a, slot) (b, slot) ≡ Less → stack_cmp a b ≡ Less
  stack_below a b lt = (elim (stack_cmp a b) as (λ r. ordering_then r (slot_cmp slot slot) ≡ Less → r ≡ Less) [
    | Less ↦ λ _. refl
    | Equal ↦ λ e. let never : Equal ≡ Less = sym (tied_itself slot_total slot) ∙ e in absurd (cc)
    | Greater ↦ λ e. e
  ]) lt

  rising_after : (row : Row) → slot ≡ row.0.1 → (t : Tree) → T (below_all key_cmp row.0 t)
      → AllByRecursion (λ x. ByStack (row.0.0, row.1) x) (listed slot t)
  rising_after row mine [] h = tt
  rising_after row mine (x ∷ t) h =
      let rest = rising_after row mine t (both_right _ _ h) in
      (elim (same_slot slot x.0.1) as (λ b. same_slot slot x.0.1 ≡ b
      → AllByRecursion (λ y. ByStack (row.0.0, row.1) y) (cond b ((x.0.0, x.1) ∷ listed slot t) (listed slot t))) [
        | true ↦ λ e.
            let its : slot ≡ x.0.1 = (same_slot_Decides slot x.0.1).0 e in
            let lt : key_cmp (row.0.0, slot) (x.0.0, slot) ≡ Less = ap (λ s. key_cmp (row.0.0, s) (x.0.0, slot)) mine
            ∙ ap (λ s. key_cmp row.0 (x.0.0, s)) its ∙ less _ (both_left _ _ h) in
            (stack_below row.0.0 x.0.0 lt, rest)
        | false ↦ λ e. rest
      ]) refl

  rising : (t : Tree) → IsSorted key_cmp t → IsRising ByStack (listed slot t)
  rising [] s = tt
  rising (x ∷ t) s = (elim (same_slot slot x.0.1)
      as (λ b. same_slot slot x.0.1 ≡ b → IsRising ByStack (cond b ((x.0.0, x.1) ∷ listed slot t) (listed slot t))) [
        | true ↦ λ e. (rising_after x ((same_slot_Decides slot x.0.1).0 e) t (both_left _ _ s), rising t (both_right _ _ s))
        | false ↦ λ e. rising t (both_right _ _ s)
      ]) refl

  -- what is listed is found, and what is found is listed
  listed_found : (t : Tree) → IsSorted key_cmp t → (x : List ℕ × Count) → Contains (listed slot t) x
      → find key_cmp (x.0, slot) t ≡ Some x.1
  listed_found [] s x h = absurd (Contains-nil x h)
  listed_found (row ∷ t) s x h =
      (elim (same_slot slot row.0.1) as (λ b. same_slot slot row.0.1 ≡ b
      → Contains (cond b ((row.0.0, row.1) ∷ listed slot t) (listed slot t)) x → find key_cmp (x.0, slot) (row ∷ t) ≡ Some x.1) [
        | true ↦ λ e c. elim (Contains-cases (row.0.0, row.1) (listed slot t) x c) [
          | inl is ↦
              let mine : slot ≡ row.0.1 = (same_slot_Decides slot row.0.1).0 e in
              ap (λ (y : List ℕ × Count). find key_cmp (y.0, slot) (row ∷ t)) (sym is)
              ∙ ap (λ s. find key_cmp (row.0.0, s) (row ∷ t)) mine ∙ find_first key_cmp key_total row t
              ∙ ap (λ (y : List ℕ × Count). Some y.1) is
          | inr there ↦ found_behind key_cmp key_total row t s (x.0, slot) x.1 (listed_found t (both_right _ _ s) x there)
        ]
        | false ↦ λ e c. found_behind key_cmp key_total row t s (x.0, slot) x.1 (listed_found t (both_right _ _ s) x c)
      ]) refl h

  found_listed : (t : Tree) (stack : List ℕ) (c : Count) → find key_cmp (stack, slot) t ≡ Some c → Contains (listed slot t) (stack, c)
  found_listed [] stack c found = cc
  found_listed (row ∷ t) stack c found =
      (elim (key_cmp (stack, slot) row.0) as (λ r. key_cmp (stack, slot) row.0 ≡ r
      → cond (is_eq r) (Some row.1) (find key_cmp (stack, slot) t) ≡ Some c → Contains (listed slot (row ∷ t)) (stack, c)) [
        | Less ↦ λ e is. further (found_listed t stack c is)
        | Equal ↦ λ e is.
            let same = key_same (stack, slot) row.0 e in
            let mine : same_slot slot row.0.1 ≡ true = (same_slot_Decides slot row.0.1).1 (ap (λ (k : List ℕ × Slot). k.1) same) in
            let value : row.1 ≡ c = ap (λ (o : Option Count). unwrap_or o c) is in
            let x : ◌≡◌ {A = List ℕ × Count} (row.0.0, row.1) (stack, c) = λ i. (sym (ap (λ (k : List ℕ × Slot). k.0) same) i, value i) in
            rw mine (subst (λ (y : List ℕ × Count). Contains ((row.0.0, row.1) ∷ listed slot t) y) x
            (Contains-here (row.0.0, row.1) (listed slot t)))
        | Greater ↦ λ e is. further (found_listed t stack c is)
      ]) refl found
    where
      further : Contains (listed slot t) (stack, c) → Contains (listed slot (row ∷ t)) (stack, c)
      further h = elim (same_slot slot row.0.1) as (λ b. Contains (cond b ((row.0.0, row.1) ∷ listed slot t) (listed slot t)) (stack, c)) [
        | true ↦ Contains-there (row.0.0, row.1) (listed slot t) (stack, c) h
        | false ↦ h
      ]

  -- the rows of a slot are its counts that aren't zero, in stack order
  pub lists_rows : (t : Tree) → IsTree t → ListsRows t slot (listed slot t)
  lists_rows t h = record { rising = rising t h.ordered; members = λ x. (into x, out x) }
    where
      into : (x : List ℕ × Count) → Contains (listed slot t) x → (x.1 ≡ count_at t slot x.0) × IsPositive x.1
      into x c = let found = listed_found t h.ordered x c in (
        sym (ap (λ (o : Option Count). unwrap_or o zero_count) found),
        each_found key_cmp IsPositive (x.0, slot) x.1 t h.positive found,
      )

      out : (x : List ℕ × Count) → (x.1 ≡ count_at t slot x.0) × IsPositive x.1 → Contains (listed slot t) x
      out x (is, some) = of (find key_cmp (x.0, slot) t) refl
        where
          of : (o : Option Count) → find key_cmp (x.0, slot) t ≡ o → Contains (listed slot t) x
          of None none = let zero : x.1 ≡ zero_count = is ∙ ap (λ (o : Option Count). unwrap_or o zero_count) none in
              let never : IsPositive zero_count = subst IsPositive zero some in absurd (omega (arith, never))
          of (Some c) found = let value : c ≡ x.1 = sym (is ∙ ap (λ (o : Option Count). unwrap_or o zero_count) found) in
              found_listed t x.0 x.1 (found ∙ ap (λ (d : Count). Some d) value)

-- ---- the slots of a whole tree

-- the slots of a position's tree are those of its rows
pub slots_tree : {A : Type 0} (n : Position A) → slots_of (tree_at n) ≡ slots_of (rows n)
slots_tree n = of (rows n)
  where
    of : (t : Tree) → slots_of (map (λ row. ((reverse row.0.0, row.0.1), row.1)) t) ≡ slots_of t
    of [] = refl
    of (row ∷ t) = ap (λ l. row.0.1 ∷ l) (of t)

slots_of-append : (xs ys : Tree) → slots_of (xs ++ ys) ≡ slots_of xs ++ slots_of ys
slots_of-append xs ys = map-append (λ (row : Row). row.0.1) xs ys

slots_of-below : (f : ℕ) (t : Tree) → slots_of (map (λ row. below f row) t) ≡ slots_of t
slots_of-below f [] = refl
slots_of-below f (row ∷ t) = ap (λ l. row.0.1 ∷ l) (slots_of-below f t)

-- frames before a node have no slots
pub slots_of-inside : {A : Type 0} (fs : List ℕ) (n : Node A) → slots_of (rows (fs, n)) ≡ slots_of (rows (inside n))
slots_of-inside [] n = refl
slots_of-inside (f ∷ fs) n = slots_of-below f (rows (fs, n)) ∙ slots_of-inside fs n

slots_of-here : (es : List (Slot × Count)) → slots_of (rows_here es) ≡ map (λ (e : Slot × Count). e.0) es
slots_of-here [] = refl
slots_of-here (e ∷ es) = ap (λ l. e.0 ∷ l) (slots_of-here es)

-- the slots of a node are those of its counts and those of its children
pub slots_of-node : {A : Type 0} (n : Position A) → slots_of (rows n) ≡ map (λ (e : Slot × Count). e.0) (counts n) ++ slots_of (child_rows (children n))
slots_of-node n = ap slots_of (rows_is n) ∙ slots_of-append (rows_here (counts n)) (child_rows (children n))
    ∙ ap (λ l. l ++ slots_of (child_rows (children n))) (slots_of-here (counts n))

-- those of the children from one on
pub slots_from_child : {A : Type 0} {n : Node A} {i : ℕ} {d : ℕ × Node A} → IsChildAt n i d
    → slots_of (child_rows (drop i (children (inside n)))) ≡ slots_of (rows (inside d.1)) ++ slots_of (child_rows (drop (i + 1) (children (inside n))))
slots_from_child {A} {n} {i} {d} at =
    let rest = child_rows (drop (i + 1) (children (inside n))) in
    ap (λ l. slots_of (child_rows l)) (from_child at)
    ∙ slots_of-append (map (λ row. below d.0 row) (rows (top d.1))) rest
    ∙ ap (λ l. l ++ slots_of rest) (slots_of-below d.0 (rows (top d.1)) ∙ slots_of-inside (frames d.1) d.1)

-- ---- counts whatever their stacks

-- the counts of a position's tree are those of its rows
pub counts_tree : {A : Type 0} (n : Position A) → counts_in (tree_at n) ≡ counts_in (rows n)
counts_tree n = of (rows n)
  where
    of : (t : Tree) → counts_in (map (λ row. ((reverse row.0.0, row.0.1), row.1)) t) ≡ counts_in t
    of [] = refl
    of (row ∷ t) = ap (λ l. (row.0.1, row.1) ∷ l) (of t)

counts_in-append : (xs ys : Tree) → counts_in (xs ++ ys) ≡ counts_in xs ++ counts_in ys
counts_in-append xs ys = map-append (λ (row : Row). (row.0.1, row.1)) xs ys

counts_in-below : (f : ℕ) (t : Tree) → counts_in (map (λ row. below f row) t) ≡ counts_in t
counts_in-below f [] = refl
counts_in-below f (row ∷ t) = ap (λ l. (row.0.1, row.1) ∷ l) (counts_in-below f t)

-- frames before a node count nothing
pub counts_in-inside : {A : Type 0} (fs : List ℕ) (n : Node A) → counts_in (rows (fs, n)) ≡ counts_in (rows (inside n))
counts_in-inside [] n = refl
counts_in-inside (f ∷ fs) n = counts_in-below f (rows (fs, n)) ∙ counts_in-inside fs n

counts_in-here : (es : List (Slot × Count)) → counts_in (rows_here es) ≡ es
counts_in-here [] = refl
counts_in-here (e ∷ es) = ap (λ l. e ∷ l) (counts_in-here es)

-- the counts from a node on are the node's and those of its children
pub asked_of-node : {A : Type 0} (slots : Slots) (n : Position A)
    → asked_of slots (counts_in (rows n)) ≡ asked_of slots (counts n) ++ asked_of slots (counts_in (child_rows (children n)))
asked_of-node slots n =
    ap (asked_of slots) (ap counts_in (rows_is n) ∙ counts_in-append (rows_here (counts n)) (child_rows (children n))
    ∙ ap (λ l. l ++ counts_in (child_rows (children n))) (counts_in-here (counts n)))
    ∙ filter-append (λ (e : Slot × Count). has_slot slots e.0) (counts n) (counts_in (child_rows (children n)))

-- those of the children from one on
pub counts_from_child : {A : Type 0} (slots : Slots) {n : Node A} {i : ℕ} {d : ℕ × Node A} → IsChildAt n i d
    → asked_of slots (counts_in (child_rows (drop i (children (inside n)))))
    ≡ asked_of slots (counts_in (rows (inside d.1))) ++ asked_of slots (counts_in (child_rows (drop (i + 1) (children (inside n)))))
counts_from_child {A} slots {n} {i} {d} at =
    let rest = child_rows (drop (i + 1) (children (inside n))) in
    ap (asked_of slots) (ap (λ l. counts_in (child_rows l)) (from_child at)
    ∙ counts_in-append (map (λ row. below d.0 row) (rows (top d.1))) rest
    ∙ ap (λ l. l ++ counts_in rest) (counts_in-below d.0 (rows (top d.1)) ∙ counts_in-inside (frames d.1) d.1))
    ∙ filter-append (λ (e : Slot × Count). has_slot slots e.0) (counts_in (rows (inside d.1))) (counts_in rest)

-- ---- slots as a list

slot_found : (t : Tree) → IsSorted key_cmp t → (slot : Slot) → Contains (slots_of t) slot
    → (stack : List ℕ) × (c : Count) × (find key_cmp (stack, slot) t ≡ Some c)
slot_found [] s slot h = absurd (Contains-nil slot h)
slot_found (row ∷ t) s slot h = elim (Contains-cases row.0.1 (slots_of t) slot h) [
  | inl is ↦ (row.0.0, row.1, ap (λ u. find key_cmp (row.0.0, u) (row ∷ t)) (sym is) ∙ find_first key_cmp key_total row t)
  | inr there ↦ let r = slot_found t (both_right _ _ s) slot there in (r.0, r.1, found_behind key_cmp key_total row t s (r.0, slot) r.1 r.2)
]

found_slot : (t : Tree) (slot : Slot) (stack : List ℕ) (c : Count) → find key_cmp (stack, slot) t ≡ Some c → Contains (slots_of t) slot
found_slot [] slot stack c found = cc
found_slot (row ∷ t) slot stack c found =
    (elim (key_cmp (stack, slot) row.0) as (λ r. key_cmp (stack, slot) row.0 ≡ r
    → cond (is_eq r) (Some row.1) (find key_cmp (stack, slot) t) ≡ Some c → Contains (row.0.1 ∷ slots_of t) slot) [
      | Less ↦ λ e is. Contains-there row.0.1 (slots_of t) slot (found_slot t slot stack c is)
      | Equal ↦ λ e is. let same = key_same (stack, slot) row.0 e in
          subst (λ u. Contains (row.0.1 ∷ slots_of t) u) (sym (ap (λ (k : List ℕ × Slot). k.1) same)) (Contains-here row.0.1 (slots_of t))
      | Greater ↦ λ e is. Contains-there row.0.1 (slots_of t) slot (found_slot t slot stack c is)
    ]) refl found

-- the slots of the rows, put in order, are those that are counted somewhere
pub lists_slots : (t : Tree) → IsTree t → (slots : List Slot) → IsRising BySlot slots
    → ((slot : Slot) → Contains slots slot ↔ Contains (slots_of t) slot) → ListsSlots t slots
lists_slots t h slots rising members =
    record { rising = rising; members = λ slot. (λ c. into slot ((members slot).0 c), λ p. (members slot).1 (out slot p)) }
  where
    into : (slot : Slot) → Contains (slots_of t) slot → (stack : List ℕ) × IsPositive (count_at t slot stack)
    into slot c =
        let r = slot_found t h.ordered slot c in (
          r.0,
          subst IsPositive (sym (ap (λ (o : Option Count). unwrap_or o zero_count) r.2))
              (each_found key_cmp IsPositive (r.0, slot) r.1 t h.positive r.2),
        )

    out : (slot : Slot) → (stack : List ℕ) × IsPositive (count_at t slot stack) → Contains (slots_of t) slot
    out slot (stack, some) = of (find key_cmp (stack, slot) t) refl
      where
        of : (o : Option Count) → find key_cmp (stack, slot) t ≡ o → Contains (slots_of t) slot
        of None none = let never : IsPositive zero_count =
            subst IsPositive (ap (λ (o : Option Count). unwrap_or o zero_count) none) some in absurd (omega (arith, never))
        of (Some c) found = found_slot t slot stack c found

-- a list in strict order rises
pub rising_strict : (slots : List Slot) → IsStrictlySortedBy slot_cmp slots → IsRising BySlot slots
unfolding IsStrictlySortedBy
rising_strict [] h = tt
rising_strict (s ∷ slots) h = (h.0, rising_strict slots h.1)

-- the tree that counts nothing has no slots
pub no_slots : ListsSlots [] []
no_slots = lists_slots [] nothing_is_tree [] tt (λ slot. (λ h. h, λ h. h))
