-- When rows are those of a state (this project's own rules): lists in strict order, no count zero on both sides, each
-- stack in the table, held segments of the part and above its front.
use Rattle.std.specs.Prelude.{◌≡◌, ◌≢◌, ℕ, ◌+◌, ◌<◌, ◌≤◌, ◌^◌, List, [], ◌∷◌, length, Bool, true, Option, Some, None}
use Rattle.std.specs.List.{AllByRecursion}
use Rattle.htl_event.specs.declared.slot.Slot.{Slot}
use Rattle.htl_event.specs.declared.slot.Slot.TheVariants.{Tagged, Handles, Bad}
use Rattle.htl_event.specs.Handles.{opens_or_closes}
use Rattle.htl_event.specs.Slots.{base_of}
use Rattle.htl_segment.specs.Numbers.{IsBytes}
use Rattle.htl_segment.specs.Content.{Content, Fits}
use Rattle.htl_state.specs.declared.rows.CountRow.{CountRow}
use Rattle.htl_state.specs.declared.rows.LatestRow.{LatestRow}
use Rattle.htl_state.specs.declared.rows.Setting.{Setting}
use Rattle.htl_state.specs.Rows.{Part, State}
use Rattle.htl_state.specs.Format.{spelling}
use Rattle.htl_state.specs.Reading.{RowFormat, follows, stacks, counts, latest, moments, held, setting}

-- each row fits, and comes after the one before it
abbrev pub RowsFit : {Row : Type 0} → (Row → Row → Bool) → (Row → Type 0) → Option Row → List Row → Type 0
RowsFit is_before RowFits last [] = Unit {0}
RowsFit is_before RowFits last (row ∷ rows) =
    RowFits row × (follows is_before last row ≡ true) × RowsFit is_before RowFits (Some row) rows

pub record ListFits {Row : Type 0} (f : RowFormat Row) (RowFits : Row → Type 0) (rows : List Row) : Type 0 where
  pub few : length rows < 2 ^ 64
  pub each : RowsFit f.is_before RowFits None rows

pub record StackFits (stack : List ℕ) : Type 0 where
  pub depth : length stack ≤ 64
  pub addresses : AllByRecursion (λ a. a < 2 ^ 64) stack

abbrev pub SlotFits : Slot → Type 0
SlotFits (Tagged object tag) = (object < 2 ^ 64) × (length tag ≡ 4) × IsBytes tag
SlotFits (Handles process) = process < 2 ^ 32
SlotFits (Bad process handle) = (process < 2 ^ 32) × (handle < 2 ^ 32)

pub record CountFits (s : Setting) (row : CountRow) : Type 0 where
  pub stack : row.stack < 2 ^ 32
  pub known : row.stack < s.stacks
  pub slot : SlotFits row.slot
  pub plus : row.count.plus < 2 ^ 64
  pub minus : row.count.minus < 2 ^ 64
  pub some : (row.count.plus ≡ 0) × (row.count.minus ≡ 0) → ⊥

pub record LatestFits (s : Setting) (row : LatestRow) : Type 0 where
  pub sequence : row.sequence < 2 ^ 64
  pub some : row.sequence ≢ 0
  pub kind : opens_or_closes row.kind ≡ true
  pub process : row.process < 2 ^ 32
  pub thread : row.thread < 2 ^ 32
  pub handle : row.handle < 2 ^ 32
  pub base : base_of row.handle ≢ 0
  pub stack : row.stack < 2 ^ 32
  pub known : row.stack < s.stacks

pub record MomentFits (row : ℕ × ℕ) : Type 0 where
  pub process : row.0 < 2 ^ 32
  pub sequence : row.1 < 2 ^ 64
  pub some : row.1 ≢ 0

pub record SegmentFits (s : Setting) (segment : Content) : Type 0 where
  pub fits : Fits segment
  pub trace_id : segment.trace_id ≡ s.trace_id
  pub processors : segment.processors ≡ s.processors
  pub processor : segment.processor ≡ s.processor
  pub above : s.front < segment.number

-- a part of this processor
pub record PartFits (id processors processor table : ℕ) (p : Part) : Type 0 where
  pub front : p.front < 2 ^ 32
  pub last_sequence : p.last_sequence < 2 ^ 64
  pub events : p.events < 2 ^ 64
  pub counts : ListFits counts (CountFits (setting id processors processor p.front table)) p.counts
  pub latest : ListFits latest (LatestFits (setting id processors processor p.front table)) p.latest
  pub marks : ListFits moments MomentFits p.marks
  pub exits : ListFits moments MomentFits p.exits
  pub held : ListFits held (SegmentFits (setting id processors processor p.front table)) p.held

-- the parts of the processors from one on
abbrev pub PartsFit : ℕ → ℕ → ℕ → ℕ → List Part → Type 0
PartsFit id processors processor table [] = Unit {0}
PartsFit id processors processor table (p ∷ parts) =
    PartFits id processors processor table p × PartsFit id processors (processor + 1) table parts

pub record WellFormed (s : State) : Type 0 where
  pub trace_id : s.trace_id < 2 ^ 64
  pub processors : (1 ≤ length s.parts) × (length s.parts ≤ 256)
  pub stacks : ListFits stacks StackFits s.stacks
  pub parts : PartsFit s.trace_id (length s.parts) 0 (length s.stacks) s.parts
  -- so that the length of the whole has a number of eight bytes
  pub small : length (spelling s) < 2 ^ 64

-- the bytes are those of the state
pub record Spells (bytes : List ℕ) (s : State) : Type 0 where
  pub bytes_are : bytes ≡ spelling s
  pub fits : WellFormed s
