-- What a tree's nodes count, position by position, and which are in normal form.
use Rattle.std.specs.Prelude.{◌≡◌, ℕ, ◌+◌, ◌<◌, ◌≤◌, max, ◌^◌, ◌≢◌, List, [], ◌∷◌, ◌++◌, map, filter, reverse}
use Rattle.std.specs.Prelude.{length, Option, Some, None, unwrap_or, nat_eq, Bool, if◌then◌else◌}
use Rattle.std.specs.List.{flat_map, starts_with, AllByRecursion}
use Rattle.std.specs.Ordering.{nat_cmp, eq_by_cmp}
use Rattle.std.specs.FinMap.Entries.{find, put}
use Rattle.htl_event.specs.declared.slot.Slot.{Slot}
use Rattle.htl_event.specs.declared.slot.Sign.{Sign}
use Rattle.htl_event.specs.declared.slot.Count.{Count}
use Rattle.htl_event.specs.Tallies.{zero_count, plus_count, total_of, IsPositive}
use Rattle.htl_sorted.specs.Entries.{IsSorted, Each}
use Rattle.htl_sorted.specs.Made.{Made}
use Rattle.htl_tree.specs.declared.cursor.Cursor.{Cursor}
use Rattle.htl_tree.specs.declared.node.Node.{Node}
use Rattle.htl_tree.specs.declared.node.Node.TheOpen.{Node-F}
use Rattle.htl_tree.specs.declared.node.Node.TheViews.{out-Node}
use Rattle.htl_tree.specs.declared.node.Node.TheFolds.{fold-Node}
use Rattle.htl_event.specs.SlotOrder.{slot_cmp}
use Rattle.htl_tree.specs.Filters.{HasFilter}
use Rattle.htl_tree.specs.HasSlot.{has_slot}
use Rattle.htl_tree.specs.declared.slots.Slots.{Slots}
use Rattle.htl_tree.specs.Trees.{Tree, AllShort, add_one, total_count, sum_where}

abbrev pub frames : {A : Type 0} → Node A → List ℕ
frames {A} n = (out-Node A n).frames.items

abbrev pub counts_of : {A : Type 0} → Node A → List (Slot × Count)
counts_of {A} n = (out-Node A n).counts.items

abbrev pub children_of : {A : Type 0} → Node A → List (ℕ × Node A)
children_of {A} n = (out-Node A n).children.items

abbrev pub filters_at : {A : Type 0} → Node A → ℕ
filters_at {A} n = (out-Node A n).filters

-- ---- positions in a tree, one frame apart

-- A position: the frames that are left on the way to a node, and the node. Where none are left, it is at the node.
abbrev pub Position : Type 0 → Type 0
Position A = List ℕ × Node A

abbrev pub position_of : {A : Type 0} → Cursor A → Position A
position_of c = (c.frames.now, c.node.now)

-- before a node, with all of its frames left
abbrev pub top : {A : Type 0} → Node A → Position A
top n = (frames n, n)

-- at a node, with no frame left
abbrev pub inside : {A : Type 0} → Node A → Position A
inside n = ([], n)

abbrev pub tops : {A : Type 0} → List (ℕ × Node A) → List (ℕ × Position A)
tops ks = map (λ k. (k.0, top k.1)) ks

abbrev pub counts_from : {A : Type 0} → List ℕ → Node A → List (Slot × Count)
counts_from [] n = counts_of n
counts_from (f ∷ fs) n = []

-- the counts at a position
abbrev pub counts : {A : Type 0} → Position A → List (Slot × Count)
counts c = counts_from c.0 c.1

-- the filters at a position, which are those of its node
abbrev pub filters : {A : Type 0} → Position A → ℕ
filters c = filters_at c.1

abbrev pub children_from : {A : Type 0} → List ℕ → Node A → List (ℕ × Position A)
children_from [] n = tops (children_of n)
children_from (f ∷ fs) n = (f, (fs, n)) ∷ []

-- the positions one frame further in, each with its frame
abbrev pub children : {A : Type 0} → Position A → List (ℕ × Position A)
children c = children_from c.0 c.1

-- a slot's count in a node's list
abbrev pub count_in : List (Slot × Count) → Slot → Count
count_in counts slot = unwrap_or (find slot_cmp slot counts) zero_count

abbrev pub at_child : {X : Type 0} → (X → Count) → Option X → Count
at_child g None = zero_count
at_child g (Some c) = g c

-- the count of a slot at the position that a path from here leads to
abbrev pub tally : {A : Type 0} → List ℕ → Slot → Position A → Count
tally [] s n = count_in (counts n) s
tally (f ∷ p) s n = at_child (λ c. tally p s c) (find nat_cmp f (children n))

abbrev pub IsNonEmpty : {A : Type 0} → Position A → Type 0
IsNonEmpty n = counts n ≡ [] → children n ≢ []

-- the filters at a position are those of all slots that are counted here or further in
abbrev pub HasFilters : {A : Type 0} → Position A → Type 0
HasFilters n = (p : List ℕ) (s : Slot) → IsPositive (tally p s n) → HasFilter (filters n) s

pub record IsNormalPosition {A : Type 0} (n : Position A) : Type 0 where
  pub slots : IsSorted slot_cmp (counts n)
  pub positive : Each IsPositive (counts n)
  pub filtered : HasFilters n
  pub frames : IsSorted nat_cmp (children n)
  pub nonempty : Each (λ c. IsNonEmpty c) (children n)

abbrev pub AtChild : {X : Type 0} → (X → Type 0) → Option X → Type 0
AtChild P None = Unit {0}
AtChild P (Some c) = P c

abbrev pub NormalAt : {A : Type 0} → List ℕ → Position A → Type 0
NormalAt [] n = IsNormalPosition n
NormalAt (f ∷ p) n = AtChild (λ c. NormalAt p c) (find nat_cmp f (children n))

-- all positions from this one on are in normal form
pub record IsNormal {A : Type 0} (n : Position A) : Type 0 where
  pub everywhere : (p : List ℕ) → NormalAt p n

abbrev pub tally_of : {A : Type 0} → Position A → List ℕ → Slot → Count
tally_of n p s = tally p s n

abbrev pub no_tally : List ℕ → Slot → Count
no_tally p s = zero_count

abbrev pub IsSameTally : (List ℕ → Slot → Count) → (List ℕ → Slot → Count) → Type 0
IsSameTally old new = (p : List ℕ) (s : Slot) → new p s ≡ old p s

-- one more is counted at one path and slot, and nothing else changes
pub record AddsOne (path : List ℕ) (slot : Slot) (sign : Sign) (old new : List ℕ → Slot → Count) : Type 0 where
  pub here : new path slot ≡ add_one sign (old path slot)
  pub elsewhere : (p : List ℕ) (s : Slot) → (p ≡ path → s ≢ slot) → new p s ≡ old p s

pub record IsBranch {A : Type 0} (path : List ℕ) (slot : Slot) (sign : Sign) (n : Position A) : Type 0 where
  pub normal : IsNormal n
  pub counts : AddsOne path slot sign no_tally (tally_of n)

-- the counts with one more at the slot
abbrev pub counted : Slot → Sign → List (Slot × Count) → List (Slot × Count)
counted s sign es = put slot_cmp s (add_one sign (count_in es s)) es

pub record IsAdded {A : Type 0} (path : List ℕ) (slot : Slot) (sign : Sign) (old new : Position A) : Type 0 where
  pub normal : IsNormal new
  pub counts : AddsOne path slot sign (tally_of old) (tally_of new)

pub record IsKept {A : Type 0} (old new : Position A) : Type 0 where
  pub normal : IsNormal new
  pub counts : IsSameTally (tally_of old) (tally_of new)
  pub nonempty : IsNonEmpty old → IsNonEmpty new

-- ---- all that is counted from a position on

-- a row as it is seen from one frame further out
abbrev pub below : ℕ → (List ℕ × Slot) × Count → (List ℕ × Slot) × Count
below f row = ((f ∷ row.0.0, row.0.1), row.1)

-- rows as they are seen from these frames further out
abbrev pub along : List ℕ → Tree → Tree
along [] t = t
along (f ∷ fs) t = map (λ row. below f row) (along fs t)

-- the rows of a node and of those below it, by path from the node
abbrev pub node_rows : List (Slot × Count) → List (ℕ × Tree) → Tree
node_rows counts below_it = map (λ e. (([], e.0), e.1)) counts ++ flat_map (λ k. map (λ row. below k.0 row) k.1) below_it

abbrev pub rows_step : {A : Type 0} → Node-F A Tree → Tree
rows_step x = along x.frames.items (node_rows x.counts.items x.children.items)

-- the rows of a node and of those below it, by path that begins with the node's frames
abbrev pub rows_of : {A : Type 0} → Node A → Tree
rows_of {A} = fold-Node A Tree rows_step

-- the counts of a position and of all further in, by path from the position
abbrev pub rows : {A : Type 0} → Position A → Tree
rows c = along c.0 (node_rows (counts_of c.1) (map (λ k. (k.0, rows_of k.1)) (children_of c.1)))

-- the counts of a position and of all further in, by stack
abbrev pub tree_at : {A : Type 0} → Position A → Tree
tree_at c = map (λ row. ((reverse row.0.0, row.0.1), row.1)) (rows c)

-- the tree of a root, which is made by the first count
abbrev pub tree_of : {A : Type 0} → Option (Node A) → Tree
tree_of None = []
tree_of (Some n) = tree_at (top n)

-- ---- how deep a tree goes

abbrev pub max_of : List (ℕ × ℕ) → ℕ
max_of [] = 0
max_of (e ∷ es) = max e.1 (max_of es)

abbrev pub height_step : {A : Type 0} → Node-F A ℕ → ℕ
height_step x = length x.frames.items + (max_of x.children.items + 1)

abbrev pub height_of : {A : Type 0} → Node A → ℕ
height_of {A} = fold-Node A ℕ height_step

-- the number of positions on the longest path
abbrev pub height : {A : Type 0} → Position A → ℕ
height c = length c.0 + (max_of (map (λ k. (k.0, height_of k.1)) (children_of c.1)) + 1)

-- the height of the highest of these positions
abbrev pub heights : {A : Type 0} → List (ℕ × Position A) → ℕ
heights ks = max_of (map (λ k. (k.0, height k.1)) ks)

-- no stack is longer than 64 frames
abbrev pub IsShallow : {A : Type 0} → Position A → Type 0
IsShallow c = AllShort (rows c)

-- What holds of the position before each root. A recursive call goes down by one position or more, so by `low` no recursion is more
-- than 64 calls deep.
pub record IsNormalTop {A : Type 0} (n : Position A) : Type 0 where
  pub normal : IsNormal n
  pub nonempty : IsNonEmpty n
  pub shallow : IsShallow n
  pub low : height n ≤ 64 + 1

abbrev pub IsNormalRoot : {A : Type 0} → Option (Node A) → Type 0
IsNormalRoot None = Unit {0}
IsNormalRoot (Some n) = IsNormalTop (top n)

pub record IsRoot {A : Type 0} (root : Option (Node A)) (total : ℕ) : Type 0 where
  pub normal : IsNormalRoot root
  pub counted : total ≡ total_count (tree_of root)
  pub fits : total < 2 ^ 64

-- ---- nodes that are made of other nodes

pub record IsCopy {A : Type 0} (node copy : Position A) : Type 0 where
  pub normal : IsNormal copy
  pub counts : IsSameTally (tally_of node) (tally_of copy)

abbrev pub AppendsCopies : {A : Type 0} → List (ℕ × Position A) → List (ℕ × Position A) → List (ℕ × Position A) → Type 0
AppendsCopies {A} ks old new = (copies : List (ℕ × Position A)) × (new ≡ old ++ copies) × Made (λ k c. IsCopy k c) ks copies

-- the counts of both sides add up
pub record IsSum {A : Type 0} (left right sum : Position A) : Type 0 where
  pub normal : IsNormal sum
  pub counts : (p : List ℕ) (s : Slot) → tally p s sum ≡ plus_count (tally p s left) (tally p s right)

-- the counts of both sides add up to numbers of 64 bits
abbrev pub FitsSum : {A : Type 0} → Position A → Position A → Type 0
FitsSum left right = (p : List ℕ) (s : Slot) → total_of (tally p s left) + total_of (tally p s right) < 2 ^ 64

-- ---- counts added up by slot

-- what the counts of a slot add up to
abbrev pub counts_at : Slot → List (Slot × Count) → Count
counts_at s [] = zero_count
counts_at s (e ∷ es) = if eq_by_cmp slot_cmp s e.0 then plus_count e.1 (counts_at s es) else counts_at s es

-- each slot once, with what its counts add up to
pub record AreAddedUp (counts sums : List (Slot × Count)) : Type 0 where
  pub sorted : IsSorted slot_cmp sums
  pub positive : Each IsPositive sums
  pub values : (s : Slot) → count_in sums s ≡ counts_at s counts

-- ---- sums over paths

-- what a position counts of a slot at all paths that begin with this one
abbrev pub sum_under : {A : Type 0} → List ℕ → Slot → Position A → Count
sum_under path slot n = sum_where (λ p. starts_with nat_eq p path) slot (rows n)

-- ---- lists of what a node counts

-- the rows of a tree whose slots pass, with their stacks: the path leads to where the tree begins
abbrev pub rows_at : (Slot → Bool) → List ℕ → Tree → List ((Slot × List ℕ) × Count)
rows_at passes path [] = []
rows_at passes path (row ∷ rows) =
    if passes row.0.1 then ((row.0.1, reverse (path ++ row.0.0)), row.1) ∷ rows_at passes path rows else rows_at passes path rows

-- the rows of the counts at one node, to which the path leads
abbrev pub rows_of_counts : (Slot → Bool) → List ℕ → List (Slot × Count) → List ((Slot × List ℕ) × Count)
rows_of_counts passes path [] = []
rows_of_counts passes path (e ∷ es) =
    if passes e.0 then ((e.0, reverse path), e.1) ∷ rows_of_counts passes path es else rows_of_counts passes path es

-- the rows of a tree whose slots pass
abbrev pub picked : (Slot → Bool) → Tree → List ((Slot × List ℕ) × Count)
picked passes [] = []
picked passes (row ∷ rows) = if passes row.0.1 then ((row.0.1, row.0.0), row.1) ∷ picked passes rows else picked passes rows

-- the counts of these rows, whatever their stacks
abbrev pub counts_in : Tree → List (Slot × Count)
counts_in t = map (λ row. (row.0.1, row.1)) t

-- the counts of the slots that are asked for
abbrev pub asked_of : Slots → List (Slot × Count) → List (Slot × Count)
asked_of slots counts = filter (λ e. has_slot slots e.0) counts

-- below a node at this depth, in frames, no stack is longer than 64 frames
abbrev pub IsShortFrom : ℕ → Tree → Type 0
IsShortFrom depth t = AllByRecursion (λ (row : (List ℕ × Slot) × Count). depth + length row.0.0 ≤ 64) t

abbrev pub slots_of : Tree → List Slot
slots_of t = map (λ row. row.0.1) t
