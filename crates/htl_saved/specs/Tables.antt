-- Tables of stacks, the places of stacks in them, and rows that name stacks by their places (this project's own).
use Rattle.std.specs.Prelude.{◌≡◌, ◌≤◌, ◌^◌, ℕ, List, length, nat_eq, Contains}
use Rattle.std.specs.List.{AllByRecursion, position_or_len}
use Rattle.std.specs.Cmp.Lexicographic.{pointwise}
use Rattle.std.specs.declared.cmp.Ordering.TheVariants.{Less}
use Rattle.htl_event.specs.Events.{Event}
use Rattle.htl_event.specs.Members.{IsRising}
use Rattle.htl_event.specs.Stacks.{stack_cmp}
use Rattle.htl_event.specs.declared.slot.Slot.{Slot}
use Rattle.htl_event.specs.declared.slot.Count.{Count}
use Rattle.htl_state.specs.declared.rows.CountRow.{CountRow}
use Rattle.htl_state.specs.declared.rows.LatestRow.{LatestRow}

abbrev pub InStackOrder : List ℕ → List ℕ → Type 0
InStackOrder a b = stack_cmp a b ≡ Less

-- the place of a stack in a table: the first one where the table has it
abbrev pub place_in : List (List ℕ) → List ℕ → ℕ
place_in table stack = position_or_len (λ s. pointwise nat_eq s stack) table

-- a count of a tree, with the place of its stack
abbrev pub count_row : List (List ℕ) → (List ℕ × Slot) × Count → CountRow
count_row table counted = record { stack = place_in table counted.0.0; slot = counted.0.1; count = counted.1 }

-- a latest event, with the place of its stack. An open or a close has no object and no tag.
abbrev pub latest_row : List (List ℕ) → Event → LatestRow
latest_row table e = record {
  sequence = e.sequence;
  kind = e.kind;
  process = e.process;
  thread = e.thread;
  handle = e.handle;
  stack = place_in table e.stack;
}

-- ---- what private contracts ask

-- stacks in order, few enough that each place has a number of 32 bits
pub record IsOrdered (table : List (List ℕ)) : Type 0 where
  pub rising : IsRising InStackOrder table
  pub few : length table ≤ 2 ^ 32

-- the table has each of these stacks
abbrev pub HasAll : List (List ℕ) → List (List ℕ) → Type 0
HasAll table stacks = AllByRecursion (Contains table) stacks
