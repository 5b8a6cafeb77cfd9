-- Rows are put in groups of one stack, whose order doesn't matter. A tree can count a group more, and can be had back.
use Rattle.std.proofs.Common.{◌≡◌, ℕ, ◌+◌, ◌<◌, ◌≤◌, ◌≢◌, List, []}
use Rattle.std.proofs.Common.{◌∷◌, ◌++◌, reverse, length, get_or, take, drop, Option, Some, None}
use Rattle.std.proofs.Common.{true, false, cond, nat_eq, unwrap_or, append-nil, take-add, refl, sym, ◌∙◌, ap, subst, arith}
use Rattle.std.specs.Prelude.{Contains}
use Rattle.std.specs.Borrow.{Bor}
use Rattle.std.specs.List.{sum_by, flat_map, AllByRecursion}
use Rattle.std.specs.List.Sorted.{IsPermutation}
use Rattle.std.specs.Ordering.{is_eq, eq_by_cmp, ordering_then}
use Rattle.std.specs.Cmp.{tied_itself, unsigned_Decides, Equal-is}
use Rattle.std.specs.Cmp.Lexicographic.{pointwise, pointwise_decides}
use Rattle.std.specs.FinMap.Entries.{find}
use Rattle.std.proofs.lemmas.List.{map-append, take_more, length-drop, take-append-drop}
use Rattle.std.proofs.lemmas.Grind.{flat_map-append}
use Rattle.std.proofs.lemmas.List.Sums.{sum_by-cons}
use Rattle.std.proofs.lemmas.List.Sorted.{sum_by-IsPermutation, IsPermutation-sym, Contains-permutation}
use Rattle.std.proofs.lemmas.List.{reverse-reverse}
use Rattle.htl_event.proofs.Members.{Contains-flat_map, at_member, each_member, all_append, AllByRecursion-weaker}
use Rattle.htl_event.specs.Stacks.{stack_cmp}
use Rattle.htl_event.specs.SlotOrder.{slot_cmp}
use Rattle.htl_event.specs.OrderLaws.{stack_total}
use Rattle.htl_event.specs.declared.slot.Slot.{Slot}
use Rattle.htl_event.specs.declared.slot.Sign.{Sign}
use Rattle.htl_event.specs.declared.slot.Count.{Count}
use Rattle.htl_event.specs.Tallies.{zero_count, plus_count, total_of, IsPositive}
use Rattle.htl_sorted.specs.Entries.{Each}
use Rattle.htl_sorted.proofs.Finds.{each_found, all_keys_from_found, key_found}
use Rattle.htl_tree.specs.declared.row.Row.{Row}
use Rattle.htl_tree.specs.Trees.{Tree, key_cmp, count_at, total_count, IsTree, AllShort}
use Rattle.htl_tree.specs.declared.node.Node.{Node}
use Rattle.htl_tree.specs.Nodes.{Position, tally, rows, tree_at, tree_of, IsNormal, IsNormalTop, IsNormalRoot}
use Rattle.htl_tree.specs.Rows.{entries_of, sum_at, slot_sum, AreShort, IsGroup, IsGained, IsLeafOfRows, WithRows}
use Rattle.htl_tree.proofs.CountAdded.{nonempty_from}
use Rattle.htl_tree.proofs.TreesAsLists.{key_total, key_same, nothing_is_tree}
use Rattle.htl_tree.proofs.RowsAdded.{some_slot}
use Rattle.htl_tree.proofs.RowsOneMore.{no_row}
use Rattle.htl_tree.proofs.CopiesAndSums.{zero_right}
use Rattle.htl_tree.proofs.SumsFromTally.{sum_at-append}
use Rattle.htl_tree.proofs.Events.{side, side_adds, side_zero, same_sides}
use Rattle.htl_tree.proofs.Roots.{root_from, all_inward, count_tree, tally_tree, sorted_tree, positive_tree, top_is_tree, equal_trees}

abbrev Entry : Type 0
Entry = (List ℕ × Slot) × Count

-- the rows of groups, one group after the other
abbrev pub rows_of : List (Bor (List Row)) → List Row
rows_of groups = flat_map (λ (group : Bor (List Row)). group.now) groups

-- ---- what rows count doesn't depend on their order

entries-permutation : (xs ys : List Row) → IsPermutation xs ys → (slot : Slot) (stack : List ℕ) → (sign : Sign)
    → side sign (sum_at (entries_of ys) slot stack) ≡ side sign (sum_at (entries_of xs) slot stack)
entries-permutation xs ys moved slot stack sign =
    side_rows ys ∙ sum_by-IsPermutation (λ (row : Row).
    cond (eq_by_cmp key_cmp (stack, slot) (row.stack.now, row.slot)) (side sign row.count) 0) xs ys moved ∙ sym (side_rows xs)
  where
    side_rows : (zs : List Row) → side sign (sum_at (entries_of zs) slot stack)
        ≡ sum_by (λ (row : Row). cond (eq_by_cmp key_cmp (stack, slot) (row.stack.now, row.slot)) (side sign row.count) 0) zs
    side_rows [] = side_zero sign
    side_rows (row ∷ zs) =
        let rest = side_rows zs in
        let whole = sum_by-cons (λ (row : Row). cond (eq_by_cmp key_cmp (stack, slot) (row.stack.now, row.slot))
        (side sign row.count) 0) row zs in
        (elim (eq_by_cmp key_cmp (stack, slot) (row.stack.now, row.slot))
        as (λ b. side sign (cond b (plus_count row.count (sum_at (entries_of zs) slot stack)) (sum_at (entries_of zs) slot stack))
        ≡ cond b (side sign row.count) 0 + sum_by
        (λ (row : Row). cond (eq_by_cmp key_cmp (stack, slot) (row.stack.now, row.slot)) (side sign row.count) 0) zs) [
          | true ↦ side_adds sign row.count (sum_at (entries_of zs) slot stack) ∙ ap (λ n. side sign row.count + n) rest
          | false ↦ omega (arith, rest)
        ]) ∙ sym whole

-- rows in another order count the same
pub sum-permutation : (xs ys : List Row) → IsPermutation xs ys → (slot : Slot) (stack : List ℕ)
    → sum_at (entries_of ys) slot stack ≡ sum_at (entries_of xs) slot stack
sum-permutation xs ys moved slot stack = same_sides _ _ (entries-permutation xs ys moved slot stack)

pub sum-rows_append : (xs ys : List Row) (slot : Slot) (stack : List ℕ)
    → sum_at (entries_of (xs ++ ys)) slot stack ≡ plus_count (sum_at (entries_of xs) slot stack) (sum_at (entries_of ys) slot stack)
sum-rows_append xs ys slot stack = ap (λ (t : Tree). sum_at t slot stack)
    (map-append (λ row. ((row.stack.now, row.slot), row.count)) xs ys) ∙ sum_at-append (entries_of xs) (entries_of ys) slot stack

-- nor on the order of their groups
pub groups-permutation : (gs hs : List (Bor (List Row))) → IsPermutation gs hs → (slot : Slot) (stack : List ℕ)
    → sum_at (entries_of (rows_of hs)) slot stack ≡ sum_at (entries_of (rows_of gs)) slot stack
groups-permutation gs hs moved slot stack =
    same_sides _ _ (λ sign. in_groups sign hs ∙ sum_by-IsPermutation
    (λ (g : Bor (List Row)). side sign (sum_at (entries_of g.now) slot stack)) gs hs moved ∙ sym (in_groups sign gs))
  where
    in_groups : (sign : Sign) (fs : List (Bor (List Row))) → side sign (sum_at (entries_of (rows_of fs)) slot stack)
        ≡ sum_by (λ (g : Bor (List Row)). side sign (sum_at (entries_of g.now) slot stack)) fs
    in_groups sign [] = side_zero sign
    in_groups sign (f ∷ fs) =
        ap (side sign) (sum-rows_append f.now (rows_of fs) slot stack)
        ∙ side_adds sign (sum_at (entries_of f.now) slot stack) (sum_at (entries_of (rows_of fs)) slot stack)
        ∙ ap (λ n. side sign (sum_at (entries_of f.now) slot stack) + n) (in_groups sign fs)
        ∙ sym (sum_by-cons (λ (g : Bor (List Row)). side sign (sum_at (entries_of g.now) slot stack)) f fs)

-- what entries count of a slot at a stack is no more than what they count in all
pub sum_at_most : (xs : Tree) (slot : Slot) (stack : List ℕ) → total_of (sum_at xs slot stack) ≤ total_count xs
sum_at_most [] slot stack = omega arith
sum_at_most (x ∷ xs) slot stack =
    let rest = sum_at_most xs slot stack in
    let sum = sum_by-cons (λ (x : Entry). total_of x.1) x xs in
    elim (eq_by_cmp key_cmp (stack, slot) x.0)
    as (λ b. total_of (cond b (plus_count x.1 (sum_at xs slot stack)) (sum_at xs slot stack)) ≤ total_count (x ∷ xs)) [
      | true ↦ omega (arith, rest, sum)
      | false ↦ omega (arith, rest, sum)
    ]

-- ---- rows of a group are rows

abbrev IsShortRow : Row → Type 0
IsShortRow row = IsPositive row.count × (length row.stack.now ≤ 64)

short_all : (rows : List Row) → AreShort rows → AllByRecursion (λ row. IsShortRow row) rows
short_all rows h = of rows h.positive h.short
  where
    of : (rows : List Row) → Each IsPositive (entries_of rows) → AllShort (entries_of rows) → AllByRecursion (λ row. IsShortRow row) rows
    of [] p s = tt
    of (row ∷ rows) p s = ((p.0, s.0), of rows p.1 s.1)

all_short : (rows : List Row) → AllByRecursion (λ row. IsShortRow row) rows → AreShort rows
all_short rows h = record { positive = positive rows h; short = short rows h }
  where
    positive : (rows : List Row) → AllByRecursion (λ row. IsShortRow row) rows → Each IsPositive (entries_of rows)
    positive [] h = tt
    positive (row ∷ rows) h = (h.0.0, positive rows h.1)

    short : (rows : List Row) → AllByRecursion (λ row. IsShortRow row) rows → AllShort (entries_of rows)
    short [] h = tt
    short (row ∷ rows) h = (h.0.1, short rows h.1)

-- each group of rows, whatever the order of the groups, has rows that are none too long and none zero
pub short_group : (rows moved : List Row) (gs hs : List (Bor (List Row))) → AreShort rows → IsPermutation rows moved
    → rows_of gs ≡ moved → IsPermutation gs hs → (g : Bor (List Row)) → Contains hs g → AreShort g.now
short_group rows moved gs hs h p is q g there =
    let before : Contains gs g = Contains-permutation hs gs g (IsPermutation-sym gs hs q) there in
    all_short g.now (each_member (λ row. IsShortRow row) g.now (λ row inside.
    let among : Contains moved row = subst (λ (l : List Row). Contains l row) is
    (Contains-flat_map (λ (group : Bor (List Row)). group.now) gs g row before inside) in
    at_member (λ row. IsShortRow row) rows row (short_all rows h)
    (Contains-permutation moved rows row (IsPermutation-sym rows moved p) among)))

-- ---- a group counted too

group_here : (rows : List Row) (stack : List ℕ) → AllByRecursion (λ (row : Row). row.stack.now ≡ stack) rows → (slot : Slot)
    → sum_at (entries_of rows) slot stack ≡ slot_sum slot rows
group_here [] stack alike slot = refl
group_here (row ∷ rows) stack alike slot =
    ap (λ (k : List ℕ). cond (is_eq (ordering_then (stack_cmp stack k) (slot_cmp slot row.slot)))
    (plus_count row.count (sum_at (entries_of rows) slot stack)) (sum_at (entries_of rows) slot stack)) alike.0
    ∙ ap (λ r. cond (is_eq (ordering_then r (slot_cmp slot row.slot))) (plus_count row.count (sum_at (entries_of rows) slot stack))
    (sum_at (entries_of rows) slot stack)) (tied_itself stack_total stack)
    ∙ ap (λ c. cond (is_eq (slot_cmp slot row.slot)) (plus_count row.count c) c) (group_here rows stack alike.1 slot)

group_else : (rows : List Row) (stack : List ℕ) → AllByRecursion (λ (row : Row). row.stack.now ≡ stack) rows
    → (slot : Slot) (k : List ℕ) → k ≢ stack → sum_at (entries_of rows) slot k ≡ zero_count
group_else [] stack alike slot k other = refl
group_else (row ∷ rows) stack alike slot k other =
    let rest = group_else rows stack alike.1 slot k other in
    (elim (eq_by_cmp key_cmp (k, slot) (row.stack.now, row.slot)) as (λ b. eq_by_cmp key_cmp (k, slot) (row.stack.now, row.slot) ≡ b
    → cond b (plus_count row.count (sum_at (entries_of rows) slot k)) (sum_at (entries_of rows) slot k) ≡ zero_count) [
      | true ↦ λ same. let is = key_same (k, slot) (row.stack.now, row.slot)
          ((Equal-is (key_cmp (k, slot) (row.stack.now, row.slot))).0 same) in
          absurd (other (ap (λ (x : List ℕ × Slot). x.0) is ∙ alike.0))
      | false ↦ λ apart. rest
    ]) refl

module _ {A : Type 0} (m : Position A) (normal : IsNormal m) (t : Tree) (tree : IsTree t) (stack : List ℕ) (short : length stack ≤ 64)
    (rs : List Row) (some : 0 < length rs) (each : Each IsPositive (entries_of rs))
    (alike : AllByRecursion (λ (row : Row). row.stack.now ≡ stack) rs)
    (here : (slot : Slot) → tally (reverse stack) slot m ≡ plus_count (count_at t slot stack) (slot_sum slot rs))
    (elsewhere : (p : List ℕ) (slot : Slot) → p ≢ reverse stack → tally p slot m ≡ count_at t slot (reverse p)) where
  back : (k : List ℕ) → reverse k ≡ reverse stack → k ≡ stack
  back k e = sym (reverse-reverse k) ∙ ap reverse e ∙ reverse-reverse stack

  count_here : (slot : Slot) → count_at (tree_at m) slot stack
      ≡ plus_count (count_at t slot stack) (sum_at (entries_of rs) slot stack)
  count_here slot = count_tree m normal slot stack ∙ here slot
      ∙ ap (plus_count (count_at t slot stack)) (sym (group_here rs stack alike slot))

  count_else : (slot : Slot) (k : List ℕ) → k ≢ stack → count_at (tree_at m) slot k ≡ count_at t slot k
  count_else slot k other = count_tree m normal slot k ∙ elsewhere (reverse k) slot (λ e. other (back k e))
      ∙ ap (λ l. count_at t slot l) (reverse-reverse k)

  with_rows : WithRows (tree_at m) t rs
  with_rows slot k =
      (elim (pointwise nat_eq k stack) as (λ b. pointwise nat_eq k stack ≡ b
      → count_at (tree_at m) slot k ≡ plus_count (count_at t slot k) (sum_at (entries_of rs) slot k)) [
        | true ↦ λ e. let is = (pointwise_decides unsigned_Decides k stack).0 e in
            ap (λ l. count_at (tree_at m) slot l) is ∙ count_here slot
            ∙ ap (λ l. plus_count (count_at t slot l) (sum_at (entries_of rs) slot l)) (sym is)
        | false ↦ λ e.
            let other : k ≢ stack = λ is. let never : false ≡ true = sym e ∙ (pointwise_decides unsigned_Decides k stack).1 is in
            absurd (cc) in
            count_else slot k other ∙ zero_right (count_at t slot k)
            ∙ ap (plus_count (count_at t slot k)) (sym (group_else rs stack alike slot k other))
      ]) refl

  all_are_short : AllShort (tree_at m)
  all_are_short = all_keys_from_found key_cmp key_total (λ (k : List ℕ × Slot). length k.0 ≤ 64) (tree_at m)
      (sorted_tree m normal) (λ k v found.
      let counted : count_at (tree_at m) k.1 k.0 ≡ v = ap (λ (o : Option Count). unwrap_or o zero_count) found in
      let positive : IsPositive v = each_found key_cmp IsPositive k v (tree_at m) (positive_tree m normal) found in
      (elim (pointwise nat_eq k.0 stack) as (λ b. pointwise nat_eq k.0 stack ≡ b → length k.0 ≤ 64) [
        | true ↦ λ e. subst (λ (l : List ℕ). length l ≤ 64) (sym ((pointwise_decides unsigned_Decides k.0 stack).0 e)) short
        | false ↦ λ e.
            let other : k.0 ≢ stack = λ is. let never : false ≡ true = sym e ∙ (pointwise_decides unsigned_Decides k.0 stack).1 is in
            absurd (cc) in
            was k (find key_cmp k t) refl (subst IsPositive (sym counted ∙ count_else k.1 k.0 other) positive)
      ]) refl)
    where
      was : (k : List ℕ × Slot) (o : Option Count) → find key_cmp k t ≡ o → IsPositive (unwrap_or (find key_cmp k t) zero_count)
          → length k.0 ≤ 64
      was k (Some c) found positive = key_found key_cmp key_total key_same
          (λ (k : List ℕ × Slot). length k.0 ≤ 64) k c t tree.shallow found
      was k None none positive = let never : IsPositive zero_count =
          subst (λ (o : Option Count). IsPositive (unwrap_or o zero_count)) none positive in absurd (omega (arith, never))

  pub group_tree : IsNormalTop m × WithRows (tree_at m) t rs
  group_tree =
      let w = some_slot rs some each in
      let there = w.1 in
      let sum : IsPositive (plus_count (count_at t w.0 stack) (slot_sum w.0 rs)) = omega (arith, there) in (
        root_from m normal (nonempty_from m (reverse stack) w.0 (subst IsPositive (sym (here w.0)) sum))
            (all_inward (rows m) all_are_short),
        with_rows,
      )

-- a group put into a root
pub gained_tree : {A : Type 0} (n m : Position A) → IsNormalTop n → (stack : List ℕ) → length stack ≤ 64 → (rs : List Row) → 0 < length rs
    → Each IsPositive (entries_of rs) → AllByRecursion (λ (row : Row). row.stack.now ≡ stack) rs → IsGained (reverse stack) rs n m
    → IsNormalTop m × WithRows (tree_at m) (tree_at n) rs
gained_tree n m h stack short rs some each alike gained =
    group_tree m gained.normal (tree_at n) (top_is_tree n h) stack short rs some each alike
    (λ slot. gained.counts.here slot ∙ ap (λ c. plus_count c (slot_sum slot rs)) (sym (count_tree n h.normal slot stack)))
    (λ p slot other. gained.counts.elsewhere p slot other ∙ tally_tree n h.normal p slot)

-- a group that makes a root
pub leaf_tree : {A : Type 0} (m : Position A) (stack : List ℕ) → length stack ≤ 64 → (rs : List Row) → 0 < length rs
    → Each IsPositive (entries_of rs) → AllByRecursion (λ (row : Row). row.stack.now ≡ stack) rs → IsLeafOfRows (reverse stack) rs m
    → IsNormalTop m × WithRows (tree_at m) [] rs
leaf_tree m stack short rs some each alike leaf =
    group_tree m leaf.normal [] nothing_is_tree stack short rs some each alike leaf.counts.here leaf.counts.elsewhere

-- what a slot gains of a group
pub group_sum : (rows : List Row) (stack : List ℕ) → AllByRecursion (λ (row : Row). row.stack.now ≡ stack) rows → (slot : Slot)
    → slot_sum slot rows ≡ sum_at (entries_of rows) slot stack
group_sum rows stack alike slot = sym (group_here rows stack alike slot)

-- the rows of a group have the stack of the first
pub first_alike : (rows : List Row) → IsGroup rows → AllByRecursion (λ (row : Row). row.stack.now ≡ (get_or rows 0 no_row).stack.now) rows
first_alike [] h = tt
first_alike (row ∷ rows) h = AllByRecursion-weaker (λ (x : Row). x.stack.now ≡ h.stack) (λ (x : Row). x.stack.now ≡ row.stack.now)
    (row ∷ rows) (λ x is. is ∙ sym h.alike.0) h.alike

-- the stack of a group's first row isn't too long
pub first_short : (rows : List Row) → IsGroup rows → AreShort rows → length (get_or rows 0 no_row).stack.now ≤ 64
first_short [] h each = absurd (let some = h.some in omega arith)
first_short (row ∷ rows) h each = each.short.0

-- ---- one group after the other

-- the first groups and one more count what the first count, and what the one counts
pub sum-take_more : (gs : List (Bor (List Row))) (i : ℕ) (d : Bor (List Row)) → i < length gs → (slot : Slot) (stack : List ℕ)
    → sum_at (entries_of (rows_of (take (i + 1) gs))) slot stack
    ≡ plus_count (sum_at (entries_of (rows_of (take i gs))) slot stack) (sum_at (entries_of (get_or gs i d).now) slot stack)
sum-take_more gs i d lt slot stack =
    let one : rows_of (get_or gs i d ∷ []) ≡ (get_or gs i d).now = append-nil (get_or gs i d).now in
    ap (λ (l : List (Bor (List Row))). sum_at (entries_of (rows_of l)) slot stack) (take_more gs i d lt)
    ∙ ap (λ (l : List Row). sum_at (entries_of l) slot stack)
    (flat_map-append (λ (group : Bor (List Row)). group.now) (take i gs) (get_or gs i d ∷ [])
    ∙ ap (λ (l : List Row). rows_of (take i gs) ++ l) one)
    ∙ sum-rows_append (rows_of (take i gs)) (get_or gs i d).now slot stack

-- the first groups and the next count no more than all
pub sum-take_most : (gs : List (Bor (List Row))) (i : ℕ) (d : Bor (List Row)) → i < length gs → (slot : Slot) (stack : List ℕ)
    → total_of (sum_at (entries_of (rows_of (take i gs))) slot stack) + total_of
    (sum_at (entries_of (get_or gs i d).now) slot stack) ≤ total_of (sum_at (entries_of (rows_of gs)) slot stack)
sum-take_most gs i d lt slot stack =
    let more = ap total_of (sum-take_more gs i d lt slot stack) in
    let parts = ap total_of (ap (λ (l : List (Bor (List Row))). sum_at (entries_of (rows_of l)) slot stack)
    (sym (take-append-drop (i + 1) gs))
    ∙ ap (λ (l : List Row). sum_at (entries_of l) slot stack)
    (flat_map-append (λ (group : Bor (List Row)). group.now) (take (i + 1) gs) (drop (i + 1) gs))
    ∙ sum-rows_append (rows_of (take (i + 1) gs)) (rows_of (drop (i + 1) gs)) slot stack) in
    omega (arith, more, parts)

-- a group more, of rows that were left
pub group_more : (gs new : List (Bor (List Row))) (one : Bor (List Row)) (n len : ℕ) (rows rest : List Row) → rest ≡ drop n rows
    → new ≡ gs ++ one ∷ [] → one.now ≡ take len rest → rows_of gs ≡ take n rows → n ≤ length rows
    → AllByRecursion (λ (group : Bor (List Row)). IsGroup group.now) gs → IsGroup (take len rest)
    → (rows_of new ≡ take (n + len) rows) × AllByRecursion (λ (group : Bor (List Row)). IsGroup group.now) new
group_more gs new one n len rows rest left is its so_far within groups group = (
  ap rows_of is ∙ flat_map-append (λ (g : Bor (List Row)). g.now) gs (one ∷ [])
      ∙ ap (λ (l : List Row). rows_of gs ++ l) (append-nil one.now ∙ its ∙ ap (take len) left)
      ∙ ap (λ (l : List Row). l ++ take len (drop n rows)) so_far ∙ sym (take-add n len rows),
  subst (λ (l : List (Bor (List Row))). AllByRecursion (λ (g : Bor (List Row)). IsGroup g.now) l) (sym is)
      (all_append (λ (g : Bor (List Row)). IsGroup g.now) gs (one ∷ []) groups (subst (λ (l : List Row). IsGroup l) (sym its) group, tt)),
)

-- a group at the front of the rows that are left ends within all rows
pub rest_within : (n len : ℕ) (rows rest : List Row) → rest ≡ drop n rows → n ≤ length rows → len ≤ length rest → n + len ≤ length rows
rest_within n len rows rest left within more = omega (arith, ap length left, length-drop n rows)

-- ---- groups taken out again

-- what is added to two counts with equal sums was added to equal counts
plus_cancel : (a b c : Count) → plus_count a c ≡ plus_count b c → a ≡ b
plus_cancel a b c same = same_sides a b (λ sign.
    let sides : side sign a + side sign c ≡ side sign b + side sign c =
    sym (side_adds sign a c) ∙ ap (side sign) same ∙ side_adds sign b c in
    omega (arith, sides))

-- a tree with rows is that of one tree only
pub tree_before_rows : {A : Type 0} (with_them a b : Option (Node A)) (rows : List Row) → IsNormalRoot a → IsNormalRoot b
    → WithRows (tree_of with_them) (tree_of a) rows → WithRows (tree_of with_them) (tree_of b) rows → tree_of a ≡ tree_of b
tree_before_rows with_them a b rows g h left right = equal_trees a b g h (λ slot stack.
    plus_cancel (count_at (tree_of a) slot stack) (count_at (tree_of b) slot stack) (sum_at (entries_of rows) slot stack)
    (sym (left slot stack) ∙ right slot stack))
