-- Rows: the counts of events before a tree is made of them. They stand in any order, and several may be of one slot and stack.
use Rattle.std.specs.Prelude.{◌≡◌, ℕ, ◌+◌, ◌<◌, ◌≤◌, ◌≢◌, List, [], ◌∷◌, map, length, if◌then◌else◌}
use Rattle.std.specs.List.{AllByRecursion}
use Rattle.std.specs.Ordering.{eq_by_cmp}
use Rattle.htl_event.specs.Events.{Event}
use Rattle.htl_event.specs.SlotOrder.{slot_cmp}
use Rattle.htl_event.specs.declared.slot.Slot.{Slot}
use Rattle.htl_event.specs.declared.slot.Sign.{Sign}
use Rattle.htl_event.specs.declared.slot.Count.{Count}
use Rattle.htl_event.specs.Tallies.{zero_count, plus_count, tally, IsPositive}
use Rattle.htl_sorted.specs.Entries.{IsSorted, Each}
use Rattle.htl_tree.specs.declared.row.Row.{Row}
use Rattle.htl_tree.specs.Trees.{Tree, key_cmp, add_one, total_count, count_at, AllShort}
use Rattle.htl_tree.specs.Nodes.{Position, count_in, tally_of, no_tally, IsNormal}

-- rows as entries of a tree
abbrev pub entries_of : List Row → Tree
entries_of rows = map (λ row. ((row.stack.now, row.slot), row.count)) rows

-- what entries in any order count of the slot with the stack
abbrev pub sum_at : Tree → Slot → List ℕ → Count
sum_at [] slot stack = zero_count
sum_at (x ∷ xs) slot stack = if eq_by_cmp key_cmp (stack, slot) x.0 then plus_count x.1 (sum_at xs slot stack) else sum_at xs slot stack

-- the rows count what the events count
abbrev pub HaveTally : List Row → List Event → Type 0
HaveTally rows events = (slot : Slot) (stack : List ℕ) → sum_at (entries_of rows) slot stack ≡ tally events slot stack

-- each row counts something, and no stack is too long
pub record AreShort (rows : List Row) : Type 0 where
  pub positive : Each IsPositive (entries_of rows)
  pub short : AllShort (entries_of rows)

-- rows that count this number of events
pub record AreRows (rows : List Row) (total : ℕ) : Type 0 where
  pub each : AreShort rows
  pub counted : total ≡ total_count (entries_of rows)

-- the count of one event of a slot with a stack
abbrev pub one_at : List ℕ → Slot → Sign → Slot → List ℕ → Count
one_at stack slot sign s k = if eq_by_cmp key_cmp (k, s) (stack, slot) then add_one sign zero_count else zero_count

-- the rows count one more of the slot with the stack
pub record IsOneMore (stack : List ℕ) (slot : Slot) (sign : Sign) (old new : List Row) : Type 0 where
  pub counts : (s : Slot) (k : List ℕ) → sum_at (entries_of new) s k ≡ plus_count (sum_at (entries_of old) s k) (one_at stack slot sign s k)
  pub total : total_count (entries_of new) ≡ total_count (entries_of old) + 1
  pub each : length stack ≤ 64 → AreShort old → AreShort new

-- one row or more, all of one stack
pub record IsGroup (rows : List Row) : Type 0 where
  pub some : 0 < length rows
  pub stack : List ℕ
  pub alike : AllByRecursion (λ row. row.stack.now ≡ stack) rows

-- ---- rows added to counts

-- what the rows count of a slot
abbrev pub slot_sum : Slot → List Row → Count
slot_sum slot [] = zero_count
slot_sum slot (row ∷ rows) = if eq_by_cmp slot_cmp slot row.slot then plus_count row.count (slot_sum slot rows) else slot_sum slot rows

-- what the rows count was added to the counts
pub record Gained (rows : List Row) (old new : List (Slot × Count)) : Type 0 where
  pub sorted : IsSorted slot_cmp new
  pub positive : Each IsPositive new
  pub counts : (slot : Slot) → count_in new slot ≡ plus_count (count_in old slot) (slot_sum slot rows)

-- what the rows count is added at one path, and nothing changes at any other
pub record AddsRows (path : List ℕ) (rows : List Row) (old new : List ℕ → Slot → Count) : Type 0 where
  pub here : (s : Slot) → new path s ≡ plus_count (old path s) (slot_sum s rows)
  pub elsewhere : (p : List ℕ) (s : Slot) → p ≢ path → new p s ≡ old p s

pub record IsGained {A : Type 0} (path : List ℕ) (rows : List Row) (old new : Position A) : Type 0 where
  pub normal : IsNormal new
  pub counts : AddsRows path rows (tally_of old) (tally_of new)

-- a node that counts the rows at the end of the path, and nothing else
pub record IsLeafOfRows {A : Type 0} (path : List ℕ) (rows : List Row) (node : Position A) : Type 0 where
  pub normal : IsNormal node
  pub counts : AddsRows path rows no_tally (tally_of node)

-- a tree with the rows counted too
abbrev pub WithRows : Tree → Tree → List Row → Type 0
WithRows new old rows = (slot : Slot) (stack : List ℕ)
    → count_at new slot stack ≡ plus_count (count_at old slot stack) (sum_at (entries_of rows) slot stack)
