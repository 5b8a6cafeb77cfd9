-- What a part has, and which events it stands for.
use Rattle.std.specs.Prelude.{◌≡◌, ℕ, ◌+◌, List, [], ◌∷◌, ◌++◌, Contains, length}
use Rattle.std.specs.List.{sum_by}
use Rattle.htl_event.specs.Events.{Event}
use Rattle.htl_event.specs.Handles.{LatestIs, IsMark, IsLastExit}
use Rattle.htl_tree.specs.Trees.{Tree, HasTally, total_count}
use Rattle.htl_tables.specs.Latest.{event_at}
use Rattle.htl_tables.specs.Greatest.{sequence_at}

-- A part: what was folded of some events, and the events that were not folded yet.
pub record Contents : Type 0 where
  pub tree : Tree
  pub latest : List Event
  pub marks : List (ℕ × ℕ)
  pub exits : List (ℕ × ℕ)
  pub held : List Event

-- The tables have the latest open or close of each handle, the mark and the last exit of each process.
pub record AreTablesOf (events latest : List Event) (marks exits : List (ℕ × ℕ)) : Type 0 where
  pub latest_at : (process base : ℕ) → LatestIs (Contains events) process base (event_at latest process base)
  pub mark_at : (process : ℕ) → IsMark (Contains events) process (sequence_at marks process)
  pub exit_at : (process : ℕ) → IsLastExit (Contains events) process (sequence_at exits process)

-- The part's tree is the tally of the events, and its tables are theirs.
pub record IsFoldOf (part : Contents) (events : List Event) : Type 0 where
  pub tree : HasTally part.tree events
  pub tables : AreTablesOf events part.latest part.marks part.exits

-- The events are those of the parts: part by part those that it folded, and then those that it holds.
abbrev pub AreEventsOf : List Contents → List Event → Type 0
AreEventsOf [] events = events ≡ []
AreEventsOf (part ∷ parts) events =
    (folded : List Event) × (others : List Event) × IsFoldOf part folded × AreEventsOf parts others ×
    (events ≡ folded ++ (part.held ++ others))

-- how many events a part counts at most
abbrev pub size_of : Contents → ℕ
size_of part = total_count part.tree + length part.held

-- how many events the parts count at most
abbrev pub size_of_all : List Contents → ℕ
size_of_all parts = sum_by size_of parts
