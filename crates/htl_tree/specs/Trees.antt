-- A tree as its tally: the counts that aren't zero, by stack and then by slot.
use Rattle.std.specs.Prelude.{◌≡◌, ℕ, ◌+◌, ◌<◌, ◌≤◌, ◌^◌, List, [], ◌∷◌, Bool, true, ◌&&◌}
use Rattle.std.specs.Prelude.{if◌then◌else◌, nat_eq, unwrap_or, length}
use Rattle.std.specs.List.{sum_by, starts_with, AllByRecursion}
use Rattle.std.specs.Ordering.{on, then_cmp}
use Rattle.std.specs.FinMap.Entries.{find, put}
use Rattle.std.specs.declared.cmp.Ordering.{Ordering}
use Rattle.std.specs.declared.cmp.Ordering.TheVariants.{Less}
use Rattle.htl_event.specs.Events.{Event}
use Rattle.htl_event.specs.declared.slot.Slot.{Slot}
use Rattle.htl_event.specs.declared.slot.Sign.{Sign}
use Rattle.htl_event.specs.declared.slot.Sign.TheVariants.{Plus, Minus}
use Rattle.htl_event.specs.declared.slot.Count.{Count}
use Rattle.htl_event.specs.Slots.{same_slot}
use Rattle.htl_event.specs.Members.{IsRising, Lists}
use Rattle.htl_event.specs.Stacks.{outer, stack_cmp}
use Rattle.htl_event.specs.Tallies.{zero_count, plus_count, total_of, IsPositive, tally, ByStack}
use Rattle.htl_sorted.specs.Entries.{IsSorted, Each}
use Rattle.htl_event.specs.SlotOrder.{slot_cmp}
use Rattle.htl_tree.specs.declared.slots.Slots.{Slots}
use Rattle.htl_tree.specs.HasSlot.{has_slot}

abbrev pub Tree : Type 0
Tree = List ((List ℕ × Slot) × Count)

-- stack order, and then slot order
abbrev pub key_cmp : List ℕ × Slot → List ℕ × Slot → Ordering
key_cmp = then_cmp (on (λ key. key.0) stack_cmp) (on (λ key. key.1) slot_cmp)

-- the tally: how often the slot came with exactly this stack
abbrev pub count_at : Tree → Slot → List ℕ → Count
count_at tree slot stack = unwrap_or (find key_cmp (stack, slot) tree) zero_count

abbrev pub add_one : Sign → Count → Count
add_one Plus count = record { plus = count.plus + 1; minus = count.minus }
add_one Minus count = record { plus = count.plus; minus = count.minus + 1 }

-- the tree with one more of the slot with the stack
abbrev pub with_one : Tree → Slot → Sign → List ℕ → Tree
with_one tree slot sign stack = put key_cmp (stack, slot) (add_one sign (count_at tree slot stack)) tree

-- the sum of the slot's counts at the stacks that pass
abbrev pub sum_where : (List ℕ → Bool) → Slot → Tree → Count
sum_where passes slot [] = zero_count
sum_where passes slot (row ∷ rows) =
    if same_slot slot row.0.1 && passes row.0.0 then plus_count row.1 (sum_where passes slot rows) else sum_where passes slot rows

-- the prefix tally: how often the slot came with a stack that begins with the path, read from the outermost call
abbrev pub count_under : Tree → List ℕ → Slot → Count
count_under tree path slot = sum_where (λ stack. starts_with nat_eq (outer stack) path) slot tree

-- the sum of all counts
abbrev pub total_count : Tree → ℕ
total_count tree = sum_by (λ row. total_of row.1) tree

-- no stack is longer than a stack may be
abbrev pub AllShort : Tree → Type 0
AllShort tree = AllByRecursion (λ (row : (List ℕ × Slot) × Count). length row.0.0 ≤ 64) tree

-- What holds of every tree. So there is one tree for each tally.
pub record IsTree (tree : Tree) : Type 0 where
  pub ordered : IsSorted key_cmp tree
  pub positive : Each IsPositive tree
  pub shallow : AllShort tree

abbrev pub IsSameTally : Tree → Tree → Type 0
IsSameTally tree other = (slot : Slot) (stack : List ℕ) → count_at tree slot stack ≡ count_at other slot stack

-- the tally of the second and that of the third add up to that of the first
abbrev pub IsSumTally : Tree → Tree → Tree → Type 0
IsSumTally sum tree other = (slot : Slot) (stack : List ℕ)
    → count_at sum slot stack ≡ plus_count (count_at tree slot stack) (count_at other slot stack)

-- the tree is the tally of the events
abbrev pub HasTally : Tree → List Event → Type 0
HasTally tree events = (slot : Slot) (stack : List ℕ) → count_at tree slot stack ≡ tally events slot stack

-- ---- lists of what a tree counts

-- the slot's counts that aren't zero, in stack order
abbrev pub ListsRows : Tree → Slot → List (List ℕ × Count) → Type 0
ListsRows tree slot rows = Lists ByStack (λ row. (row.1 ≡ count_at tree slot row.0) × IsPositive row.1) rows

abbrev pub ByStackAndSlot : {X : Type 0} → (Slot × List ℕ) × X → (Slot × List ℕ) × X → Type 0
ByStackAndSlot a b = key_cmp (a.0.1, a.0.0) (b.0.1, b.0.0) ≡ Less

-- the counts of these slots that aren't zero, by stack and then by slot
abbrev pub ListsRowsOf : Tree → Slots → List ((Slot × List ℕ) × Count) → Type 0
ListsRowsOf tree slots rows =
    Lists ByStackAndSlot (λ row. (row.1 ≡ count_at tree row.0.0 row.0.1) × IsPositive row.1 × (has_slot slots row.0.0 ≡ true)) rows

abbrev pub BySlot : Slot → Slot → Type 0
BySlot s t = slot_cmp s t ≡ Less

-- how often each of these slots came with whatever stack, where that isn't zero, in slot order
abbrev pub ListsSums : Tree → Slots → List (Slot × Count) → Type 0
ListsSums tree slots sums =
    Lists (λ a b. BySlot a.0 b.0) (λ sum. (sum.1 ≡ count_under tree [] sum.0) × IsPositive sum.1 × (has_slot slots sum.0 ≡ true)) sums

-- the slots that are counted at some stack, in slot order
abbrev pub ListsSlots : Tree → List Slot → Type 0
ListsSlots tree slots = Lists BySlot (λ slot. (stack : List ℕ) × IsPositive (count_at tree slot stack)) slots

-- ---- a tree of its rows

-- a row as the tree's value has it
abbrev pub by_stack : (Slot × List ℕ) × Count → (List ℕ × Slot) × Count
by_stack row = ((row.0.1, row.0.0), row.1)

-- Rows of which there is a tree: they strictly rise by stack and then by slot, none is zero, and their sum is a number of 64 bits.
pub record IsTally (rows : List ((Slot × List ℕ) × Count)) : Type 0 where
  pub rising : IsRising ByStackAndSlot rows
  pub positive : AllByRecursion (λ row. IsPositive row.1) rows
  pub fits : sum_by (λ row. total_of row.1) rows < 2 ^ 64
