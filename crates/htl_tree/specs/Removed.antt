-- What is left of counts and of nodes from which rows were taken out again.
use Rattle.std.specs.Prelude.{◌≡◌, ℕ, ◌-◌, ◌≤◌, List, Bool, nat_lt, ◌||◌}
use Rattle.htl_event.specs.declared.slot.Slot.{Slot}
use Rattle.htl_event.specs.declared.slot.Count.{Count}
use Rattle.htl_event.specs.SlotOrder.{slot_cmp}
use Rattle.htl_event.specs.Tallies.{plus_count}
use Rattle.htl_sorted.specs.Entries.{IsSorted}
use Rattle.htl_tree.specs.declared.node.Node.{Node}
use Rattle.htl_tree.specs.declared.row.Row.{Row}
use Rattle.htl_tree.specs.Nodes.{inside, top, tally_of, count_in, IsNormal}
use Rattle.htl_tree.specs.Rows.{slot_sum, AddsRows}

-- on neither side the first count is more than the second
pub record IsAtMost (part all : Count) : Type 0 where
  pub plus : part.plus ≤ all.plus
  pub minus : part.minus ≤ all.minus

-- the first count without the second, on each side
abbrev pub minus_count : Count → Count → Count
minus_count all part = record { plus = all.plus - part.plus; minus = all.minus - part.minus }

-- whether the count is more than zero, on either side
abbrev pub is_some_count : Count → Bool
is_some_count c = nat_lt 0 c.plus || nat_lt 0 c.minus

-- What the rows count was taken out of the counts. Counts that are zero may be left.
pub record Lost (rows : List Row) (old new : List (Slot × Count)) : Type 0 where
  pub sorted : IsSorted slot_cmp new
  pub counts : (slot : Slot) → count_in old slot ≡ plus_count (count_in new slot) (slot_sum slot rows)

-- What the rows count at the path was taken out of the node. Its inside is in normal form, also where nothing is left there.
pub record IsLess {A : Type 0} (path : List ℕ) (rows : List Row) (old new : Node A) : Type 0 where
  pub normal : IsNormal (inside new)
  pub counts : AddsRows path rows (tally_of (top new)) (tally_of (top old))
