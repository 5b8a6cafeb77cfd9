-- An analyst's state as a value.
use Rattle.std.specs.Prelude.{ℕ, List, [], slice_index_or}
use Rattle.htl_event.specs.Events.{Event}
use Rattle.htl_segment.specs.Content.{Content}
use Rattle.htl_tree.specs.Trees.{Tree}
use Rattle.htl_taken.specs.Numbers.{Numbers}

-- What is left of the segments of one processor that were folded: counts by stack, the latest event of
-- each handle, snapshot marks and last exits of each process, the greatest sequence, and how many events there were.
pub record Folded : Type 0 where
  pub tree : Tree
  pub latest : List Event
  pub marks : List (ℕ × ℕ)
  pub exits : List (ℕ × ℕ)
  pub last_sequence : ℕ
  pub events : ℕ

abbrev pub folded : Tree → List Event → List (ℕ × ℕ) → List (ℕ × ℕ) → ℕ → ℕ → Folded
folded tree latest marks exits last_sequence events =
    record { tree = tree; latest = latest; marks = marks; exits = exits; last_sequence = last_sequence; events = events }

abbrev pub no_folded : Folded
no_folded = folded [] [] [] [] 0 0

-- what is kept of one processor: the segments of its loose numbers, and what was folded below its front
pub record Part : Type 0 where
  pub held : List Content
  pub folded : Folded

abbrev pub part : List Content → Folded → Part
part held folded = record { held = held; folded = folded }

abbrev pub no_part : Part
no_part = part [] no_folded

abbrev pub part_at : List Part → ℕ → Part
part_at parts p = slice_index_or parts p no_part

abbrev pub held_at : List Part → ℕ → List Content
held_at parts p = (part_at parts p).held

abbrev pub folded_at : List Part → ℕ → Folded
folded_at parts p = (part_at parts p).folded

-- of each processor its fronts and loose numbers, and what is kept of it
pub record State : Type 0 where
  pub trace_id : ℕ
  pub processors : ℕ
  pub taken : List Numbers
  pub parts : List Part

abbrev pub state : ℕ → ℕ → List Numbers → List Part → State
state trace_id processors taken parts =
    record { trace_id = trace_id; processors = processors; taken = taken; parts = parts }
