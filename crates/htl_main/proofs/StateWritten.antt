-- What is written of what was folded is the state of all segments that were taken, or there is a reason why it isn't.
use Rattle.std.proofs.Common.{◌≢◌, [], ℕ, List, None, Option, Some, inr, refl}
use Rattle.htl_analyst.specs.States.{State}
use Rattle.htl_case.specs.declared.fault.CaseFault.TheVariants as cases
use Rattle.htl_command.specs.declared.question.Setting.{Setting}
use Rattle.htl_device.specs.States.{SourceState}
use Rattle.htl_inputs.specs.declared.fault.RunFault.{RunFault}
use Rattle.htl_inputs.specs.declared.fault.RunFault.TheVariants as faults
use Rattle.htl_main.specs.Folding.{AreFolded, IsBeginningRefused, IsFolded, IsHalfKnown}
use Rattle.htl_main.specs.SavedStates.{IsStateOfFolded, IsUnsaved}
use Rattle.htl_main.specs.StateRuns.{IsUnwritten, WritesState}
use Rattle.htl_main.specs.declared.folding.Folded.{Folded}
use Rattle.htl_main.specs.declared.loading.adding.Added.{Added}
use Rattle.htl_main.specs.declared.origin.Between.TheVariants.{Nothing}
use Rattle.htl_main.proofs.FoldInputs.{took_all}
use Rattle.htl_main.proofs.LateFaults.{IsLate}

-- ---- nothing is saved

-- where a state can't be made, all was read
pub unsaved_late : (analyst : Option State) (fault : RunFault) → IsUnsaved analyst fault → IsLate fault
unsaved_late analyst (faults.Case fault) told = tt
unsaved_late analyst faults.StateStacks told = tt
unsaved_late analyst faults.Memory told = tt
unsaved_late analyst fault told = absurd told

-- that is about no two segments
pub unsaved_about_none : (analyst : Option State) (fault : RunFault) → IsUnsaved analyst fault → IsHalfKnown fault Nothing
unsaved_about_none analyst (faults.Case cases.Empty) told = refl
unsaved_about_none analyst (faults.Case fault) told = absurd told
unsaved_about_none analyst fault told = refl

-- and no failed write
pub unsaved_no_write : (analyst : Option State) (fault : RunFault) → IsUnsaved analyst fault → fault ≢ faults.Write
unsaved_no_write analyst faults.Write told is = told
unsaved_no_write analyst fault told is = cc is

-- ---- how a run ends that writes the state of what inputs of these texts come to

module _ (setting : Setting) (texts : List (List ℕ)) (new : List SourceState) (before after : Option (List ℕ)) where
  -- the inputs have a fault
  pub unread_unwritten : (fault : RunFault) → IsBeginningRefused setting None [] texts new fault
      → IsUnwritten setting texts new before after fault
  unread_unwritten (faults.Symbols fault) refused = absurd (refused.0)
  unread_unwritten faults.StateStacks refused = absurd (refused.why)
  unread_unwritten faults.Write refused = absurd (refused.why)
  unread_unwritten fault refused = refused

  some_folded : (analyst : Option State) (added : Added) → IsFolded setting [] texts (AreFolded analyst) added → analyst ≢ None
  some_folded None added folded none = folded.some (folded.kept.taken)
  some_folded (Some a) added folded none = cc none

  -- their state can't be made
  pub unsaved_unwritten : (analyst : Option State) (added : Added) (fault : RunFault) → IsFolded setting [] texts (AreFolded analyst) added
      → IsUnsaved analyst fault → IsUnwritten setting texts new before after fault
  unsaved_unwritten analyst added (faults.Case cases.Empty) folded told = absurd (some_folded analyst added folded told)
  unsaved_unwritten None added faults.StateStacks folded told = absurd told
  unsaved_unwritten (Some a) added faults.StateStacks folded told =
      let took = took_all setting [] texts (AreFolded (Some a)) added folded in
      record { taken = took.0; added = added; folded = took.2; analyst = a; are = took.1; unsaved = told }
  unsaved_unwritten analyst added faults.Memory folded told = (folded.workers, inr (inr (folded.given, folded.decoded, folded.some)))
  unsaved_unwritten analyst added fault folded told = absurd told

-- bytes that are the state of what was folded are that of all segments of the inputs
pub writes_state : (setting : Setting) (texts : List (List ℕ)) (folded : Folded) (added : Added) (bytes : List ℕ)
    → IsFolded setting [] texts (AreFolded folded.analyst) added → IsStateOfFolded folded bytes → (Written : List ℕ → Type 0)
    → Written bytes → WritesState setting texts Written added
writes_state setting texts folded added bytes is saved Written written =
    let took = took_all setting [] texts (AreFolded folded.analyst) added is in
    record {
      taken = took.0;
      folded = took.2;
      bytes = bytes;
      state = λ T all. saved.state took.0 T took.1 all;
      written = written;
    }
