-- When a state has taken the segments of a list, and no others.
use Rattle.std.specs.Prelude.{◌≡◌, ◌↔◌, ◌⊎◌, ◌∷◌, [], ℕ, List, Contains}
use Rattle.std.specs.List.{AllByRecursion}
use Rattle.htl_segment.specs.Content.{Content, Fits}
use Rattle.htl_segment.specs.Traces.{Trace}
use Rattle.htl_analyst.specs.States.{State}
use Rattle.htl_analyst.specs.Keys.{HasTaken}
use Rattle.htl_analyst.specs.Right.{IsCollection, IsRight}

-- a segment of the list has this key
abbrev pub HasKeyOf : List Content → ℕ → ℕ → Type 0
HasKeyOf segments p n = (s : Content) × Contains segments s × (s.processor ≡ p) × (s.number ≡ n)

-- the segment is the first of the list that has its key
abbrev pub IsFirstOf : List Content → Content → Type 0
IsFirstOf [] s = ⊥
IsFirstOf (t ∷ more) s = (t ≡ s) ⊎ ((t.processor ≡ s.processor → t.number ≡ s.number → ⊥) × IsFirstOf more s)

-- The state has taken exactly these segments: they have its trace id and processor count, its keys are theirs, and it is
-- right about every collection that the first segment of each key is of. A later segment of a key counts nothing.
pub record HasTakenAll (segments : List Content) (a : State) : Type 0 where
  pub ids : AllByRecursion (λ s. (s.trace_id ≡ a.trace_id) × (s.processors ≡ a.processors)) segments
  pub fit : AllByRecursion Fits segments
  pub keys : (p n : ℕ) → HasTaken a p n ↔ HasKeyOf segments p n
  pub right : (T : Trace) → IsCollection T → T.id ≡ a.trace_id → T.processors ≡ a.processors
      → ((s : Content) → IsFirstOf segments s → Contains T.segments s) → IsRight a T
