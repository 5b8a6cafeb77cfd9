-- What the steps of an analyst make of its state.
use Rattle.std.specs.Prelude.{◌≡◌, ℕ, ◌<◌, ◌⊎◌, nat_lt, if◌then◌else◌, map, replicate, Contains, slice_set, insert, length}
use Rattle.std.specs.List.{AllByRecursion}
use Rattle.htl_segment.specs.Content.{Content}
use Rattle.htl_taken.specs.Numbers.{Numbers, no_numbers, numbers_at, loose_at, with_loose, IsUnion}
use Rattle.htl_taken.specs.Rising.{gap_of}
use Rattle.htl_analyst.specs.declared.fault.Took.{Took}
use Rattle.htl_analyst.specs.declared.fault.Took.TheVariants.{New, Repeat}
use Rattle.htl_analyst.specs.States.{Part, part, no_part, part_at, held_at, folded_at, State, state}

-- the state that has taken nothing
abbrev pub new_state : ℕ → ℕ → State
new_state trace_id processors =
    state trace_id processors (replicate processors no_numbers) (replicate processors no_part)

-- the state with other numbers and another part of one processor
abbrev pub updated : State → ℕ → Numbers → Part → State
updated a p q k = state a.trace_id a.processors (slice_set a.taken p q) (slice_set a.parts p k)

-- ---- taking

-- the segment's number is loose, and the segment is held at the same place of the list
abbrev pub with_segment : State → Content → State
with_segment a s =
    updated a s.processor (with_loose (numbers_at a.taken s.processor) s.number)
    (part (insert (held_at a.parts s.processor) (gap_of s.number (loose_at a.taken s.processor)) s) (folded_at a.parts s.processor))

-- a repeat changes nothing
abbrev pub taken_as : Took → State → Content → State
taken_as New a s = with_segment a s
taken_as Repeat a s = a

-- ---- merging

-- One processor of a merge: what was folded is that of the greater front, the first state's where both
-- are equal. The held segments are those of the loose numbers, from either state.
pub record IsMergedPart (q : Numbers) (k : Part) (r : Numbers) (l : Part) (u : Numbers) (m : Part) : Type 0 where
  pub folded : m.folded ≡ (if nat_lt q.front r.front then l.folded else k.folded)
  pub numbers : map (λ s. s.number) m.held ≡ u.loose
  pub from : AllByRecursion (λ s. Contains k.held s ⊎ Contains l.held s) m.held

-- A merge of two states: fronts and loose numbers are those of the union.
pub record IsMerge (a b c : State) : Type 0 where
  pub trace_id : c.trace_id ≡ a.trace_id
  pub processors : c.processors ≡ a.processors
  pub places : length c.taken ≡ a.processors
  pub parts : length c.parts ≡ a.processors
  pub taken : (p : ℕ) → IsUnion (numbers_at a.taken p) (numbers_at b.taken p) (numbers_at c.taken p)
  pub each : (p : ℕ) → p < a.processors
      → IsMergedPart (numbers_at a.taken p) (part_at a.parts p) (numbers_at b.taken p) (part_at b.parts p)
      (numbers_at c.taken p) (part_at c.parts p)
