-- How much there is of a trace, and the outlines of its segments, which say that.
use Rattle.std.specs.Prelude.{◌≡◌, ℕ, List, [], ◌∷◌, length, map, max, slice_get, Some}
use Rattle.htl_segment.specs.Outlines.{outline_of}
use Rattle.htl_segment.specs.Traces.{Trace}
use Rattle.htl_segment.specs.declared.outline.Outline.{Outline}
use Rattle.htl_analyst.specs.States.{State}
use Rattle.htl_case.specs.Cases.{IsCase}
use Rattle.htl_case.specs.Complete.{IsFirstMissing}
use Rattle.htl_taken.specs.Numbers.{front_at}
use Rattle.htl_question.specs.Bases as bases
use Rattle.htl_evidence.specs.Bases.{IsExtentOf}
use Rattle.htl_evidence.specs.declared.extent.Extent.{Extent}

-- the trace is a case of so many processors, and these are the outlines of its segments, in their order
abbrev pub AreOutlinesOf : ℕ → List Outline → Trace → Type 0
AreOutlinesOf processors outlines T = IsCase T × (processors ≡ T.processors) × (outlines ≡ map outline_of T.segments)

-- the first missing numbers of so many processors
pub record AreFronts (T : Trace) (processors : ℕ) (fronts : List ℕ) : Type 0 where
  pub each : length fronts ≡ processors
  pub first : (p n : ℕ) → slice_get fronts p ≡ Some n → IsFirstMissing T p n

abbrev pub extent_of : Extent → bases.Extent
extent_of e = bases.extent e.processors e.segments e.gaps.items e.complete_to

-- the trace has this extent, and these are the first missing numbers of its processors
pub record HasExtent (T : Trace) (extent : Extent) : Type 0 where
  pub is : IsExtentOf T (extent_of extent)
  pub fronts : AreFronts T T.processors extent.fronts.items

-- the numbers of the segments of one processor
abbrev pub numbers_of : List Outline → List ℕ
numbers_of outlines = map (λ o. o.number) outlines

-- the greatest of a number and of the last sequences
abbrev pub greatest_from : ℕ → List Outline → ℕ
greatest_from n [] = n
greatest_from n (o ∷ os) = greatest_from (max o.last n) os

-- the fronts of so many of an analyst's processors
pub record AreFrontsOf (a : State) (processors : ℕ) (fronts : List ℕ) : Type 0 where
  pub each : length fronts ≡ processors
  pub front : (p n : ℕ) → slice_get fronts p ≡ Some n → front_at a.taken p ≡ n
