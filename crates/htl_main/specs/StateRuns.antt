-- How a run ends that folds its sources and writes the state of what was folded (this project's own).
use Rattle.std.specs.Prelude.{◌≡◌, ⊤, ℕ, List, [], Option, Some, IfErr, OnOk, Result, Ok, Err}
use Rattle.std.specs.Io.KnownBytes.{Appends}
use Rattle.htl_analyst.specs.States.{State}
use Rattle.htl_command.specs.declared.question.Setting.{Setting}
use Rattle.htl_device.specs.Devices.{AppendsPrefix}
use Rattle.htl_device.specs.States.{IfKnown, SinkState, SourceState}
use Rattle.htl_segment.specs.Content.{Content}
use Rattle.htl_segment.specs.Traces.{Trace}
use Rattle.htl_inputs.specs.Readings.{AreRead, AskForReaders}
use Rattle.htl_inputs.specs.declared.fault.RunFault.{RunFault}
use Rattle.htl_inputs.specs.declared.fault.RunFault.TheVariants as faults
use Rattle.htl_main.specs.Folding.{AreFolded, IsCollectionOf, IsFolded, IsFoldingRefused, IsHalfKnown, folding}
use Rattle.htl_main.specs.Origins.{by_fault}
use Rattle.htl_main.specs.Printed.{WorkersFit}
use Rattle.htl_main.specs.Runs.{LeavesSink}
use Rattle.htl_main.specs.SavedStates.{IsStateOf, IsUnsaved}
use Rattle.htl_main.specs.declared.loading.adding.Added.{Added}
use Rattle.htl_main.specs.declared.refused.Refused.{Refused}

-- All segments of inputs of these texts were taken, which are these.
abbrev pub FoldsAll : Setting → List (List ℕ) → List Content → Added → Type 0
FoldsAll setting texts taken added = IsFolded setting [] texts (λ all. all ≡ taken) added

-- All segments of inputs of these texts were folded, and bytes that are their state were written.
pub record WritesState (setting : Setting) (texts : List (List ℕ)) (Written : List ℕ → Type 0) (added : Added) : Type 0 where
  pub taken : List Content
  pub folded : FoldsAll setting texts taken added
  pub bytes : List ℕ
  pub state : (T : Trace) → IsCollectionOf taken T → IsStateOf bytes taken
  pub written : Written bytes

-- All segments of inputs of these texts were folded, and they have too many stacks for a state.
pub record HasManyStacks (setting : Setting) (texts : List (List ℕ)) : Type 0 where
  pub taken : List Content
  pub added : Added
  pub folded : FoldsAll setting texts taken added
  pub analyst : State
  pub are : AreFolded (Some analyst) taken
  pub unsaved : IsUnsaved (Some analyst) faults.StateStacks

-- Why no state is written, or only some first part of it: a reading that folds ends so, or there are too many stacks, or a write failed.
abbrev pub IsUnwritten : Setting → List (List ℕ) → List SourceState → Option (List ℕ) → Option (List ℕ) → RunFault → Type 0
IsUnwritten setting texts new before after faults.StateStacks = HasManyStacks setting texts
IsUnwritten setting texts new before after faults.Write =
    (added : Added) × WritesState setting texts (AppendsPrefix before after) added
IsUnwritten setting texts new before after fault = IsFoldingRefused (folding setting [] texts new) (λ taken. ⊤) fault

-- The known bytes of a sink got the state of what inputs of these texts come to; or there is a reason why not.
abbrev pub EndsWriting : Setting → List (List ℕ) → List SourceState → Option (List ℕ) → Option (List ℕ) → Result Added Refused → Type 0
EndsWriting setting texts new before after (Ok added) = WritesState setting texts (Appends before after) added
EndsWriting setting texts new before after (Err refused) = IsUnwritten setting texts new before after refused.fault

-- A run that folds its sources and writes the state, once all were read.
pub record IsFoldedFrom (setting : Setting) (old new : List SourceState) (before after : SinkState) (result : Result Added Refused)
    : Type 0 where
  pub outcome : IfKnown old (λ texts. EndsWriting setting texts new before.contents after.contents result)
  pub workers : OnOk result (WorkersFit setting.workers)
  pub between : IfErr result (λ refused. IsHalfKnown refused.fault refused.between)
  pub reading : AreRead setting.form.hex old new (by_fault result)
  pub readers : AskForReaders setting.form.hex setting.workers old new
  pub sink : LeavesSink before after (by_fault result)
