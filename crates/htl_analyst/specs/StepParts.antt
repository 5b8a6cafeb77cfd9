-- Parts of a merge and of a compaction.
use Rattle.std.specs.Prelude.{◌≡◌, ℕ, ◌+◌, ◌-◌, ◌*◌, ◌^◌, ◌<◌, ◌≤◌, ◌⊎◌, nat_lt, if◌then◌else◌, List, ◌++◌, map, Contains}
use Rattle.std.specs.Prelude.{drop, take, length}
use Rattle.std.specs.List.{AllByRecursion}
use Rattle.htl_event.specs.Events.{Event}
use Rattle.htl_segment.specs.Content.{Content}
use Rattle.htl_segment.specs.Traces.{all_events}
use Rattle.htl_taken.specs.Numbers.{Numbers, numbers_at, front_at, reach_of, settled}
use Rattle.htl_analyst.specs.States.{Folded, Part, part, part_at, held_at, folded_at, State}
use Rattle.htl_analyst.specs.Right.{IsFolded, IsWithin}
use Rattle.htl_analyst.specs.Steps.{updated}

-- ---- of a merge

-- the segments of these loose numbers, from either part
pub record IsHeldOfBoth (k l : Part) (u : Numbers) (held : List Content) : Type 0 where
  pub numbers : map (λ s. s.number) held ≡ u.loose
  pub from : AllByRecursion (λ s. Contains k.held s ⊎ Contains l.held s) held

-- the first parts hold what a merge of the two states holds
pub record AreHeldOfBoth (a b : State) (taken : List Numbers) (parts : List Part) (n : ℕ) : Type 0 where
  pub len : length parts ≡ n
  pub each : (p : ℕ) → p < n → IsHeldOfBoth (part_at a.parts p) (part_at b.parts p) (numbers_at taken p) (held_at parts p)

-- the first parts have what the second state has folded where its front is greater
pub record AreGreaterOf (a b : State) (parts : List Part) (n : ℕ) : Type 0 where
  pub len : length parts ≡ n
  pub each : (p : ℕ) → p < n → front_at a.taken p < front_at b.taken p → folded_at parts p ≡ folded_at b.parts p

-- ---- of a compaction

-- how many held segments of the processor go on from its front without a gap
abbrev pub run_length : State → ℕ → ℕ
run_length a p = reach_of (numbers_at a.taken p) - front_at a.taken p

-- the events of the held segments that go on from the processor's front without a gap
abbrev pub run_of : State → ℕ → List Event
run_of a p = all_events (take (run_length a p) (held_at a.parts p))

-- the state with this fold, the front moved over all segments that are in it, and these no longer held
abbrev pub settled_with : State → ℕ → Folded → State
settled_with a p folded =
    updated a p (settled (numbers_at a.taken p)) (part (drop (run_length a p) (held_at a.parts p)) folded)

-- the run of one processor is folded
pub record IsCompactedAt (a b : State) (p : ℕ) : Type 0 where
  pub folded : Folded
  pub is : b ≡ settled_with a p folded
  pub joins : (events : List Event) → IsFolded (folded_at a.parts p) events → IsFolded folded (events ++ run_of a p)
  pub bounded : (most : ℕ) → IsWithin most (folded_at a.parts p) → IsWithin (most + 4096 * run_length a p) folded

-- ---- of a compaction by several workers

-- how many loose numbers go on from the front without a gap
abbrev pub run_at : Numbers → ℕ
run_at q = reach_of q - q.front

-- What a fold of the first `run` held segments asks: there are as many, each has 4,096 events at most, and no count
-- outgrows 64 bits.
pub record CanFold (run : ℕ) (k : Part) : Type 0 where
  pub within : run ≤ length k.held
  pub few : length (all_events (take run k.held)) ≤ 4096 * run
  pub most : ℕ
  pub bounded : IsWithin most k.folded
  pub fits : most + 4096 * run < 2 ^ 64

-- the first `run` held segments are folded in the part, and no longer held
pub record IsRunFolded (run : ℕ) (k l : Part) : Type 0 where
  pub folded : Folded
  pub is : l ≡ part (drop run k.held) folded
  pub joins : (events : List Event) → IsFolded k.folded events → IsFolded folded (events ++ all_events (take run k.held))
  pub bounded : (most : ℕ) → IsWithin most k.folded → IsWithin (most + 4096 * run) folded

-- a part that a worker had: its run, which is not empty, is folded, or it is as it was
abbrev pub IsWorked : Numbers → Part → Part → Type 0
IsWorked q k l = (l ≡ k) ⊎ ((0 < run_at q) × IsRunFolded (run_at q) k l)

-- the front moved if the run was folded in the part, which then holds fewer segments than there are loose numbers
abbrev pub moved : Numbers → Part → Numbers
moved q l = if nat_lt (length l.held) (length q.loose) then settled q else q

-- of one processor: the run is folded and the front moved over it, or nothing changed
abbrev pub IsFurtherAt : Numbers → Part → Numbers → Part → Type 0
IsFurtherAt q k r l = ((r ≡ q) × (l ≡ k)) ⊎ ((r ≡ settled q) × IsRunFolded (run_at q) k l)

-- the runs of some processors are folded, and their fronts moved over them
pub record IsFurther (a b : State) : Type 0 where
  pub trace_id : b.trace_id ≡ a.trace_id
  pub processors : b.processors ≡ a.processors
  pub places : length b.taken ≡ length a.taken
  pub parts : length b.parts ≡ length a.parts
  pub each : (p : ℕ) → p < a.processors
      → IsFurtherAt (numbers_at a.taken p) (part_at a.parts p) (numbers_at b.taken p) (part_at b.parts p)
