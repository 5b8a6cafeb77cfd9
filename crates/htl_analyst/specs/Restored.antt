-- A state made of folds, and of a state that was saved: of its folds and held segments.
use Rattle.std.specs.Prelude.{ℕ, ◌*◌, ◌<◌, ◌≤◌, ◌⊎◌, ◌≡◌, List, [], ◌∷◌, map, length, slice_index_or}
use Rattle.std.specs.List.{flat_map}
use Rattle.htl_segment.specs.Content.{Content}
use Rattle.htl_tree.specs.Trees.{total_count}
use Rattle.htl_taken.specs.Numbers.{all_below}
use Rattle.htl_analyst.specs.declared.restoring.FoldedPart.{FoldedPart}
use Rattle.htl_analyst.specs.declared.fault.RestoreFault.{RestoreFault}
use Rattle.htl_analyst.specs.declared.fault.RestoreFault.TheVariants.{Processors, Counts, Events, NoMemory}
use Rattle.htl_analyst.specs.States.{Folded, folded, no_folded, Part, part, State, state}
use Rattle.htl_analyst.specs.Keys.{HasTaken}
use Rattle.htl_analyst.specs.Refusals.{IsOfState}
use Rattle.htl_analyst.specs.Right.{IsWithin}
use Rattle.htl_analyst.specs.Steps.{with_segment}

-- ---- folds

-- a processor's front, and what was folded below it
pub record Fold : Type 0 where
  pub front : ℕ
  pub folded : Folded

abbrev pub no_fold : Fold
no_fold = record { front = 0; folded = no_folded }

abbrev pub fold_at : List Fold → ℕ → Fold
fold_at folds p = slice_index_or folds p no_fold

-- a part as a value
abbrev pub fold_of : {A : Type 0} → FoldedPart A → Fold
fold_of part = record {
  front = part.front;
  folded = folded part.tree part.latest part.marks part.exits part.last_sequence part.events;
}

-- ---- the state of folds

-- The state of these folds: of each processor all numbers below its front are taken, and no other, and nothing is held.
abbrev pub of_folds : ℕ → List Fold → State
of_folds trace_id folds =
    state trace_id (length folds) (map (λ f. all_below f.front) folds) (map (λ f. part [] f.folded) folds)

-- neither the counts nor the events are more than segments below the front can have, 4,096 in each
abbrev pub IsBounded : Fold → Type 0
IsBounded f = IsWithin (4096 * f.front) f.folded

-- ---- refusals

-- the processor is there, as one of at most 256, and all before it are bounded
pub record IsFirst (folds : List Fold) (p : ℕ) : Type 0 where
  pub few : length folds ≤ 256
  pub here : p < length folds
  pub before : (q : ℕ) → q < p → IsBounded (fold_at folds q)

-- there are from 1 to 256 processors, and the fold of each is bounded
pub record CanRestore (folds : List Fold) : Type 0 where
  pub some : 0 < length folds
  pub few : length folds ≤ 256
  pub each : (p : ℕ) → p < length folds → IsBounded (fold_at folds p)

-- the tree counts more than segments below the front can have
abbrev pub HasCounts : Fold → Type 0
HasCounts f = 4096 * f.front < total_count f.folded.tree

-- more events were folded than segments below the front can have, though the tree counts no more than that
abbrev pub HasEvents : Fold → Type 0
HasEvents f = (total_count f.folded.tree ≤ 4096 * f.front) × (4096 * f.front < f.folded.events)

-- Why no state is made of folds: the first cause in this order. Processors are tried in turn.
abbrev pub RestoreRefused : List Fold → RestoreFault → Type 0
RestoreRefused folds Processors = (length folds ≡ 0) ⊎ (256 < length folds)
RestoreRefused folds (Counts p) = IsFirst folds p × HasCounts (fold_at folds p)
RestoreRefused folds (Events p) = IsFirst folds p × HasEvents (fold_at folds p)
RestoreRefused folds NoMemory = CanRestore folds

-- ---- the folds and the held segments of a state

-- the folds of a state, by processor
pub record AreFoldsOf (a : State) (folds : List Fold) : Type 0 where
  pub fronts : map (λ f. f.front) folds ≡ map (λ q. q.front) a.taken
  pub folded : map (λ f. f.folded) folds ≡ map (λ k. k.folded) a.parts

-- the held segments of all processors
abbrev pub held_segments : State → List Content
held_segments a = flat_map (λ k. k.held) a.parts

-- the state that has taken these segments too, each of which is new
abbrev pub with_segments : State → List Content → State
with_segments a [] = a
with_segments a (s ∷ more) = with_segments (with_segment a s) more

-- each segment is of the state, and its key is new
abbrev pub AreNew : State → List Content → Type 0
AreNew a [] = Unit {0}
AreNew a (s ∷ more) = IsOfState a s × (HasTaken a s.processor s.number → ⊥) × AreNew (with_segment a s) more

-- ---- what private contracts say

abbrev pub front_of : {A : Type 0} → FoldedPart A → ℕ
front_of part = part.front

-- the part that has folded this, and holds nothing
abbrev pub part_of : {A : Type 0} → FoldedPart A → Part
part_of k = part [] (fold_of k).folded

-- why the fold of this processor isn't bounded
abbrev pub IsOver : Fold → ℕ → RestoreFault → Type 0
IsOver f p Processors = ⊥
IsOver f p (Counts q) = (q ≡ p) × HasCounts f
IsOver f p (Events q) = (q ≡ p) × HasEvents f
IsOver f p NoMemory = ⊥
