-- Which rows an analyst has (this project's own): the state HLA1 stores, in which places of one table stand for stacks.
use Rattle.std.specs.Prelude.{◌≡◌, ◌<◌, ◌≤◌, ◌^◌, ℕ, List, [], ◌++◌, map, length, Contains, slice_index_or}
use Rattle.std.specs.List.{flat_map}
use Rattle.htl_event.specs.Members.{Lists}
use Rattle.htl_taken.specs.Numbers.{front_at}
use Rattle.htl_tree.specs.Trees.{IsTree}
use Rattle.htl_tables.specs.Keys.{ByKey}
use Rattle.htl_tables.specs.Latest.{HasEvent}
use Rattle.htl_tables.specs.Greatest.{HasLowerProcess, HasSequence}
use Rattle.htl_analyst.specs.States.{Folded, Part as Kept, part_at as kept_at, folded_at, State as Analyst}
use Rattle.htl_state.specs.Rows.{Part, part, State}
use Rattle.htl_state.specs.Format.{spelling}
use Rattle.htl_saved.specs.Tables.{InStackOrder, count_row, latest_row}

-- ---- the table of stacks

-- the stacks that are counted with a slot, or that a latest event has
abbrev pub stacks_of : Kept → List (List ℕ)
stacks_of k = map (λ row. row.0.0) k.folded.tree ++ map (λ e. e.stack) k.folded.latest

-- the table has exactly these stacks, each once, in stack order
abbrev pub IsTable : List Kept → List (List ℕ) → Type 0
IsTable parts table = Lists InStackOrder (Contains (flat_map stacks_of parts)) table

-- ---- the rows of one processor

-- the rows of what is kept of a processor, with its front
abbrev pub part_rows : List (List ℕ) → ℕ → Kept → Part
part_rows table front k =
    part front k.folded.last_sequence k.folded.events (map (count_row table) k.folded.tree)
    (map (latest_row table) k.folded.latest) k.folded.marks k.folded.exits k.held

-- ---- the rows of an analyst

abbrev pub no_rows : Part
no_rows = part 0 0 0 [] [] [] [] []

abbrev pub rows_at : List Part → ℕ → Part
rows_at parts p = slice_index_or parts p no_rows

-- The rows are those of the analyst: its trace, the table of all its stacks, and the rows of each processor.
pub record AreRowsOf (a : Analyst) (rows : State) : Type 0 where
  pub trace_id : rows.trace_id ≡ a.trace_id
  pub stacks : IsTable a.parts rows.stacks
  pub processors : length rows.parts ≡ a.processors
  pub parts : (p : ℕ) → p < a.processors
      → rows_at rows.parts p ≡ part_rows rows.stacks (front_at a.taken p) (kept_at a.parts p)

-- the bytes are the spelling of the analyst's rows, whose places of stacks are numbers of 32 bits
pub record IsSaved (a : Analyst) (bytes : List ℕ) : Type 0 where
  pub rows : State
  pub are : AreRowsOf a rows
  pub few : length rows.stacks ≤ 2 ^ 32
  pub spelled : bytes ≡ spelling rows

-- ---- what an analyst keeps

-- The counts are those of a tree, and the tables have one row for each key, in order.
pub record HasTables (f : Folded) : Type 0 where
  pub tree : IsTree f.tree
  pub latest : Lists ByKey (HasEvent f.latest) f.latest
  pub marks : Lists HasLowerProcess (HasSequence f.marks) f.marks
  pub exits : Lists HasLowerProcess (HasSequence f.exits) f.exits

-- What is so of whatever an analyst keeps, since its types say so: the trace id is a number of 64 bits, and trees and tables are in order.
pub record IsKept (a : Analyst) : Type 0 where
  pub trace_id : a.trace_id < 2 ^ 64
  pub tables : (p : ℕ) → p < a.processors → HasTables (folded_at a.parts p)
