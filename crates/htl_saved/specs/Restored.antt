-- Which state rows tell (this project's own).
use Rattle.std.specs.Prelude.{ℕ, ◌<◌, List, [], ◌∷◌, map, length, Contains, slice_index_or}
use Rattle.htl_event.specs.Events.{Event}
use Rattle.htl_event.specs.declared.slot.Slot.{Slot}
use Rattle.htl_event.specs.declared.slot.Count.{Count}
use Rattle.htl_taken.specs.Numbers.{Numbers}
use Rattle.htl_analyst.specs.States.{Folded, folded, Part as Kept, part as kept, State as Analyst, state as analyst}
use Rattle.htl_analyst.specs.Restored.{Fold}
use Rattle.htl_tables.specs.Tables.{IsEventTable, IsSequenceTable}
use Rattle.htl_tree.specs.Trees.{IsTally}
use Rattle.htl_state.specs.declared.rows.CountRow.{CountRow}
use Rattle.htl_state.specs.declared.rows.LatestRow.{LatestRow}
use Rattle.htl_state.specs.Rows.{Part, State}

-- ---- rows with their stacks

abbrev pub stack_at : List (List ℕ) → ℕ → List ℕ
stack_at table place = slice_index_or table place []

-- what a row counts, with the stack at its place of the table
abbrev pub counted : List (List ℕ) → CountRow → (List ℕ × Slot) × Count
counted table row = ((stack_at table row.stack, row.slot), row.count)

-- the event of a row, with the stack at its place of the table
abbrev pub event_of : List (List ℕ) → LatestRow → Event
event_of table row = record {
  sequence = row.sequence;
  kind = row.kind;
  process = row.process;
  thread = row.thread;
  handle = row.handle;
  object = 0;
  tag = 0 ∷ 0 ∷ 0 ∷ 0 ∷ [];
  stack = stack_at table row.stack;
}

-- ---- the state

-- what rows tell of the segments below the front of a processor
abbrev pub folded_of : List (List ℕ) → Part → Folded
folded_of table p =
    folded (map (counted table) p.counts) (map (event_of table) p.latest) p.marks p.exits p.last_sequence p.events

-- the same, with the front
abbrev pub fold_told : List (List ℕ) → Part → Fold
fold_told table p = record { front = p.front; folded = folded_of table p }

-- all numbers below the front are taken, and those of the held segments
abbrev pub numbers_told : Part → Numbers
numbers_told p = record { front = p.front; loose = map (λ s. s.number) p.held }

abbrev pub kept_told : List (List ℕ) → Part → Kept
kept_told table p = kept p.held (folded_of table p)

-- the state that the rows tell
abbrev pub state_told : State → Analyst
state_told rows =
    analyst rows.trace_id (length rows.parts) (map numbers_told rows.parts) (map (kept_told rows.stacks) rows.parts)

-- its folds, by processor
abbrev pub folds_told : State → List Fold
folds_told rows = map (fold_told rows.stacks) rows.parts

-- ---- what private contracts ask

-- a count as a tree is made of it
abbrev pub listed : List (List ℕ) → CountRow → (Slot × List ℕ) × Count
listed table row = ((row.slot, stack_at table row.stack), row.count)

-- the rows name stacks of the table, and are those of a tree and of tables
pub record IsFoldable (table : List (List ℕ)) (p : Part) : Type 0 where
  pub counted : (row : CountRow) → Contains p.counts row → row.stack < length table
  pub tally : IsTally (map (listed table) p.counts)
  pub named : (row : LatestRow) → Contains p.latest row → row.stack < length table
  pub latest : IsEventTable (map (event_of table) p.latest)
  pub marks : IsSequenceTable p.marks
  pub exits : IsSequenceTable p.exits

abbrev pub AreFoldable : List (List ℕ) → List Part → Type 0
AreFoldable table parts = (p : Part) → Contains parts p → IsFoldable table p
