-- The state of segments is loaded as an analyst that took them, unless memory is refused.
use Rattle.std.proofs.Common.{◌<◌, ◌^◌, ℕ, List, Some, length, subst, sym}
use Rattle.htl_analyst.specs.Right.{IsStanding}
use Rattle.htl_analyst.specs.States.{State}
use Rattle.htl_saved.specs.Laws.{AreLoadedAs, IsWantOfMemory}
use Rattle.htl_saved.specs.Loads.{IsLoaded, LoadRefused}
use Rattle.htl_saved.specs.declared.fault.LoadFault.{LoadFault}
use Rattle.htl_saved.proofs.LoadedAgain.{are_loaded_again}
use Rattle.htl_segment.specs.Content.{Content}
use Rattle.htl_main.specs.Folding.{AreFolded}
use Rattle.htl_main.specs.SavedStates.{IsStateOf}
use Rattle.htl_main.proofs.FoldLaws.{right_of_all}

module _ (bytes : List ℕ) (told : List Content) (small : length bytes < 2 ^ 64) (is : IsStateOf bytes told) where
  standing : IsStanding is.analyst is.trace
  standing = record {
    right = right_of_all told is.analyst is.trace is.folded.taken.1 is.folded.taken.0 is.collection;
    least = is.folded.far;
  }

  again : AreLoadedAs is.analyst bytes
  again = are_loaded_again is.trace is.analyst bytes standing is.kept is.saved small

  -- what is loaded took them
  pub loaded_folds : (a : State) → IsLoaded bytes a → AreFolded (Some a) told
  loaded_folds a loaded = subst (λ (b : State). AreFolded (Some b) told) (sym (again.loaded a loaded)) is.folded

  -- only for want of memory is it refused
  pub refused_memory : (fault : LoadFault) → LoadRefused bytes fault → IsWantOfMemory fault
  refused_memory fault refused = again.refused fault refused
