-- What keepers take of the segments of a bundle (this project's own).
use Rattle.std.specs.Prelude.{ℕ, List, ◌++◌}
use Rattle.htl_segment.specs.Content.{Content}
use Rattle.htl_segment.specs.Bundles.{IsBoundary}

-- the keeper took these segments, after whichever it took before
abbrev pub Took : {S K : Type 0} → (S → K → List Content → Type 0) → K → K → List Content → Type 0
Took {S} gathers old new segments =
    (kind : S) (before : List Content) → gathers kind old before → gathers kind new (before ++ segments)

-- the keeper took the segments of these bytes before this offset, where one of them ends or the bytes begin
abbrev pub TookUpTo : {S K : Type 0} → (S → K → List Content → Type 0) → K → K → List ℕ → ℕ → Type 0
TookUpTo gathers old new bytes offset = (here : IsBoundary bytes offset) × Took gathers old new here.before
