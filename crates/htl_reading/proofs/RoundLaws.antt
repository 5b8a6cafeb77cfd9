-- A keeper takes the segments of lists, which several workers gathered, one list after the other.
use Rattle.std.proofs.Common.{◌≡◌, ℕ, List, [], ◌∷◌, ◌++◌, append-nil, refl}
use Rattle.std.proofs.lemmas.List.Elements.{All-nil}
use Rattle.htl_segment.specs.Content.{Content, Fits}
use Rattle.htl_segment.specs.Keepers.{Took}
use Rattle.htl_segment.specs.declared.keeper.Segments.{Segments}
use Rattle.htl_reading.specs.Keepers.{TookAll}
use Rattle.htl_reading.specs.Parts.{TookInOrder}
use Rattle.htl_reading.proofs.PartLaws.{took_last}

-- a list has these segments
abbrev pub lists_of : Segments → Segments → List Content → Type 0
lists_of kind now segments = now.list.items ≡ segments

-- where the keeper took the segments of some lists, and then those of one more, it took those of all in order
pub took_list : {K : Type 0} (gathers : K → K → List Content → Type 0) (start mid new : K) (none : Segments) → none.list.items ≡ []
    → (before : List Segments) (last : Segments)
    → ((bytes : List ℕ) → TookInOrder lists_of none before bytes → TookAll gathers start mid bytes)
    → Took gathers mid new last.list.items
    → (bytes : List ℕ) → TookInOrder lists_of none (before ++ last ∷ []) bytes → TookAll gathers start new bytes
took_list gathers start mid new none empty before last so_far took bytes all =
    took_last lists_of none gathers start mid new before last so_far
    (λ kind was segments more began had is. rw (← is none [] empty) (took kind segments had)) bytes all

-- no list has no segment
pub took_nothing : {K : Type 0} (gathers : K → K → List Content → Type 0) (keeper : K) (bytes : List ℕ) → bytes ≡ []
    → TookAll gathers keeper keeper bytes
took_nothing gathers keeper bytes none = rw none ([], record { parts = refl; fits = All-nil Fits }, λ kind was is. rw (append-nil was) is)
