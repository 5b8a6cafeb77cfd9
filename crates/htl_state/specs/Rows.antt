-- A state as rows, whatever holds them.
use Rattle.std.specs.Prelude.{ℕ, List}
use Rattle.htl_segment.specs.Content.{Content}
use Rattle.htl_state.specs.declared.rows.CountRow.{CountRow}
use Rattle.htl_state.specs.declared.rows.LatestRow.{LatestRow}

-- what is kept of one processor: its front, the greatest sequence and the number of the folded events, the counts,
-- the latest events, the marks and exits as process and sequence, and the held segments
pub record Part : Type 0 where
  pub front : ℕ
  pub last_sequence : ℕ
  pub events : ℕ
  pub counts : List CountRow
  pub latest : List LatestRow
  pub marks : List (ℕ × ℕ)
  pub exits : List (ℕ × ℕ)
  pub held : List Content

abbrev pub part : ℕ → ℕ → ℕ → List CountRow → List LatestRow → List (ℕ × ℕ) → List (ℕ × ℕ) → List Content → Part
part front last_sequence events counts latest marks exits held = record {
  front = front;
  last_sequence = last_sequence;
  events = events;
  counts = counts;
  latest = latest;
  marks = marks;
  exits = exits;
  held = held;
}

pub record State : Type 0 where
  pub trace_id : ℕ
  pub stacks : List (List ℕ)
  pub parts : List Part

abbrev pub state : ℕ → List (List ℕ) → List Part → State
state trace_id stacks parts = record { trace_id = trace_id; stacks = stacks; parts = parts }
