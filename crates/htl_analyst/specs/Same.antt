-- When two states are the same: their numbers and held segments are, and their folds have the same counts and rows.
use Rattle.std.specs.Prelude.{◌≡◌, ℕ, ◌<◌}
use Rattle.htl_tree.specs.Trees.{IsSameTally}
use Rattle.htl_tables.specs.Latest.{event_at}
use Rattle.htl_tables.specs.Greatest.{sequence_at}
use Rattle.htl_analyst.specs.States.{Folded, Part, State, part_at}

pub record IsSameFolded (f g : Folded) : Type 0 where
  pub last_sequence : f.last_sequence ≡ g.last_sequence
  pub events : f.events ≡ g.events
  pub tree : IsSameTally f.tree g.tree
  pub latest : (process base : ℕ) → event_at f.latest process base ≡ event_at g.latest process base
  pub marks : (process : ℕ) → sequence_at f.marks process ≡ sequence_at g.marks process
  pub exits : (process : ℕ) → sequence_at f.exits process ≡ sequence_at g.exits process

pub record IsSamePart (k l : Part) : Type 0 where
  pub held : k.held ≡ l.held
  pub folded : IsSameFolded k.folded l.folded

pub record IsSame (a b : State) : Type 0 where
  pub trace_id : a.trace_id ≡ b.trace_id
  pub processors : a.processors ≡ b.processors
  pub taken : a.taken ≡ b.taken
  pub parts : (p : ℕ) → p < a.processors → IsSamePart (part_at a.parts p) (part_at b.parts p)
