-- How a run ends, what it leaves in the sink that its answer goes to, and how it reads its sources (this project's own).
use Rattle.std.specs.Prelude.{◌≡◌, ◌≢◌, ℕ, true, false, List, Option, IfErr, IfOk, OnOk, Result, Ok, Err}
use Rattle.htl_analyst.specs.States.{State}
use Rattle.htl_case.specs.Cases.{IsCase}
use Rattle.htl_command.specs.declared.question.Job.{Job}
use Rattle.htl_command.specs.declared.question.Moment.{Moment}
use Rattle.htl_command.specs.declared.question.Setting.{Setting}
use Rattle.htl_device.specs.States.{IfKnown, SinkState, SourceState, ends, lefts}
use Rattle.htl_event.specs.declared.interest.Interest.{Interest}
use Rattle.htl_segment.specs.Content.{Content}
use Rattle.htl_segment.specs.Traces.{Trace}
use Rattle.htl_inputs.specs.CutInputs.{AreCut}
use Rattle.htl_inputs.specs.Reads.{NeverWrite}
use Rattle.htl_inputs.specs.Readings.{AreRead, AskForReaders}
use Rattle.htl_inputs.specs.declared.fault.RunFault.{RunFault}
use Rattle.htl_inputs.specs.declared.fault.RunFault.TheVariants.{Memory, Write}
use Rattle.htl_main.specs.Adding.{IsAdded, IsAddingRefused}
use Rattle.htl_main.specs.Causes.{IsCause, IsSourcesCause, Prints, PrintsPart}
use Rattle.htl_main.specs.Coverages.{IsCoverage}
use Rattle.htl_main.specs.Folding.{AreFolded, AreReadToFold, Folding, IsBeginningRefused, IsFolded, IsFoldingRefused, IsHalfKnown, folding}
use Rattle.htl_main.specs.Loading.{AreLoadedOf, in_setting}
use Rattle.htl_main.specs.Origins.{IsBetween, by_fault}
use Rattle.htl_main.specs.Picked.{Lacks, NeverCase, Reports, by_refusal}
use Rattle.htl_main.specs.Printed.{HasSymbols, WorkersFit}
use Rattle.htl_main.specs.declared.loading.adding.Added.{Added}
use Rattle.htl_main.specs.declared.completed.Completed.{Completed}
use Rattle.htl_main.specs.declared.folding.Folded.{Folded}
use Rattle.htl_main.specs.declared.loading.Loaded.{Loaded}
use Rattle.htl_main.specs.declared.origin.Between.TheVariants.{Nothing}
use Rattle.htl_main.specs.declared.picks.Lacking.{Lacking}
use Rattle.htl_main.specs.declared.picks.Unpicked.{Unpicked}
use Rattle.htl_main.specs.declared.picks.Unpicked.TheVariants as unpicked
use Rattle.htl_main.specs.declared.refused.Refused.{Refused}

-- Why a run over inputs of these texts has no answer: one of these causes. Where a write failed, some first part of the answer was written.
pub record IsRefusedRun (Cause : RunFault → Type 0) (job : Job) (texts : List (List ℕ)) (table old new : Option (List ℕ))
    (refused : Refused) : Type 0 where
  pub cause : Cause refused.fault
  pub between : IsBetween job.setting.form texts refused.fault refused.between
  pub written : refused.fault ≡ Write → PrintsPart job texts table old new

-- The answer was printed, and what is reported beside it holds; or there is a reason why not.
abbrev pub Ends : (RunFault → Type 0) → Job → List (List ℕ) → Option (List ℕ) → Option (List ℕ) → Option (List ℕ)
    → Result Completed Refused → Type 0
Ends Cause job texts table old new (Ok completed) = Prints job texts table old new × Reports job texts table completed
Ends Cause job texts table old new (Err refused) = IsRefusedRun Cause job texts table old new refused

-- Memory was refused, which is about no two segments.
abbrev pub RunsOut : {S : Type 0} → Result S Refused → Type 0
RunsOut (Ok done) = ⊥
RunsOut (Err refused) = (refused.fault ≡ Memory) × (refused.between ≡ Nothing)

-- Nothing was written, unless a write failed, which is reported.
pub record LeavesSink {S : Type 0} (old new : SinkState) (result : Result S RunFault) : Type 0 where
  pub untouched : IfErr result (λ fault. fault ≢ Write → new ≡ old)
  pub failed : result ≡ Err Write → new.failed ≡ true
  pub fine : OnOk result (new.failed ≡ false)

-- A run over inputs of these texts.
pub record IsRunOver (job : Job) (texts : List (List ℕ)) (table : Option (List ℕ)) (before after : SinkState)
    (result : Result Completed Refused) : Type 0 where
  pub outcome : Ends (IsCause job texts table) job texts table before.contents after.contents result
  pub sink : LeavesSink before after (by_fault result)

-- A run over sources, which it reads.
pub record IsRun (job : Job) (table : Option (List ℕ)) (old new : List SourceState) (before after : SinkState)
    (result : Result Completed Refused) : Type 0 where
  pub outcome : IfKnown old (λ texts. Ends (IsSourcesCause job texts (lefts new) (ends new) table) job texts table
      before.contents after.contents result)
  pub reading : AreRead job.setting.form.hex old new (by_fault result)
  pub readers : AskForReaders job.setting.form.hex job.setting.workers old new
  pub sink : LeavesSink before after (by_fault result)

-- The same of a run that keeps only events of this interest. It may lack something to tell its outcome, and names no two segments.
abbrev pub EndsPicking : (RunFault → Type 0) → Interest → Job → List (List ℕ) → Option (List ℕ) → Option (List ℕ) → Option (List ℕ)
    → Result Completed Unpicked → Type 0
EndsPicking Cause interest job texts table old new (Ok completed) = Prints job texts table old new × Reports job texts table completed
EndsPicking Cause interest job texts table old new (Err (unpicked.Lacking lack)) = Lacks interest job texts lack
EndsPicking Cause interest job texts table old new (Err (unpicked.Refused fault)) =
    Cause fault × (fault ≡ Write → PrintsPart job texts table old new)

pub record IsPicked (interest : Interest) (job : Job) (table : Option (List ℕ)) (old new : List SourceState) (before after : SinkState)
    (result : Result Completed Unpicked) : Type 0 where
  pub outcome : IfKnown old (λ texts. EndsPicking (IsSourcesCause job texts (lefts new) (ends new) table) interest job texts table
      before.contents after.contents result)
  pub reading : AreRead false old new (by_refusal result)
  pub readers : AskForReaders false job.setting.workers old new
  pub sink : LeavesSink before after (by_refusal result)
  -- Where something is lacking, nothing was written.
  pub unwritten : (lack : Lacking) → result ≡ Err (unpicked.Lacking lack) → after ≡ before
  -- No broken rule of a case is reported, since only whole segments tell which it is.
  pub no_case : NeverCase (by_refusal result)

-- What inputs of these texts come to was loaded; or there is a reason why not, which is one for each job.
abbrev pub EndsLoading : Setting → Option Moment → Option (List ℕ) → List (List ℕ) → List SourceState → Result Loaded Refused → Type 0
EndsLoading setting until table texts new (Ok loaded) =
    AreLoadedOf texts table setting until loaded.case loaded.symbols × AreCut setting.form.hex texts loaded.cut
EndsLoading setting until table texts new (Err refused) =
    ((job : Job) → job.until ≡ until → IsSourcesCause (in_setting setting job) texts (lefts new) (ends new) table refused.fault)
    × IsBetween setting.form texts refused.fault refused.between

pub record LoadsAs (setting : Setting) (until : Option Moment) (table : Option (List ℕ)) (old new : List SourceState)
    (result : Result Loaded Refused) : Type 0 where
  pub outcome : IfKnown old (λ texts. EndsLoading setting until table texts new result)
  pub case : IfOk result (λ loaded. IsCase loaded.case)
  pub coverage : IfOk result (λ loaded. IsCoverage loaded.case loaded.coverage)
  pub workers : OnOk result (WorkersFit setting.workers)
  pub reading : AreRead setting.form.hex old new (by_fault result)
  pub readers : AskForReaders setting.form.hex setting.workers old new
  pub no_write : NeverWrite (by_fault result)

-- Sources of these texts were added to the segments of a case; or there is a reason why not.
abbrev pub EndsAdding : Setting → List Content → List (List ℕ) → List SourceState → Trace → Result Added Refused → Type 0
EndsAdding setting before texts new after (Ok added) = IsAdded setting.form setting.complete before texts after added
EndsAdding setting before texts new after (Err refused) = IsAddingRefused setting before texts (lefts new) (ends new) refused

pub record AddsAs (setting : Setting) (old new : List SourceState) (before after : Loaded) (result : Result Added Refused) : Type 0 where
  pub outcome : IfKnown old (λ texts. EndsAdding setting before.case.segments texts new after.case result)
  pub coverage : IfOk result (λ added. (after.coverage ≡ added.coverage) × IsCoverage after.case after.coverage)
  pub workers : OnOk result (WorkersFit setting.workers)
  -- Where sources are refused, what was loaded stays.
  pub same : IfErr result (λ refused. after ≡ before)
  pub symbols : after.symbols ≡ before.symbols
  pub cut : after.cut ≡ before.cut
  pub reading : AreRead setting.form.hex old new (by_fault result)
  pub readers : AskForReaders setting.form.hex setting.workers old new
  pub no_write : NeverWrite (by_fault result)

-- ---- readings that fold

-- Sources of these texts were folded after the segments from before, and an analyst has what was taken; or there is a reason why not.
abbrev pub EndsFolding : Folding → Option State → Result Added Refused → Type 0
EndsFolding of now (Ok added) = IsFolded of.setting of.before of.inputs (AreFolded now) added
EndsFolding of now (Err refused) = IsFoldingRefused of (AreFolded now) refused.fault

pub record FoldsAs (setting : Setting) (old new : List SourceState) (before after : Folded) (result : Result Added Refused) : Type 0 where
  pub outcome : (taken : List Content) → AreFolded before.analyst taken
      → IfKnown old (λ texts. EndsFolding (folding setting taken texts new) after.analyst result)
  pub between : IfErr result (λ refused. IsHalfKnown refused.fault refused.between)
  pub symbols : after.symbols ≡ before.symbols
  -- Where memory was refused after a read that failed, that is reported, and not the read.
  pub reading : AreReadToFold setting.form.hex old new (by_fault result)
  pub readers : AskForReaders setting.form.hex setting.workers old new
  pub no_write : NeverWrite (by_fault result)

-- A dialogue that forgets begins with the segments from before and what inputs of these texts come to after them; or there is a reason why
-- not.
abbrev pub EndsBeginning : Setting → Option (List ℕ) → List Content → List (List ℕ) → List SourceState → Result (Folded × Added) Refused
    → Type 0
EndsBeginning setting table before texts new (Ok begun) = IsFolded setting before texts (AreFolded begun.0.analyst) begun.1
EndsBeginning setting table before texts new (Err refused) = IsBeginningRefused setting table before texts new refused.fault

pub record BeginsAs (setting : Setting) (table : Option (List ℕ)) (first : Option State) (old new : List SourceState)
    (result : Result (Folded × Added) Refused) : Type 0 where
  pub outcome : (before : List Content) → AreFolded first before
      → IfKnown old (λ texts. EndsBeginning setting table before texts new result)
  pub symbols : IfOk result (λ begun. HasSymbols table begun.0.symbols)
  pub workers : OnOk result (WorkersFit setting.workers)
  pub between : IfErr result (λ refused. IsHalfKnown refused.fault refused.between)
  pub reading : AreRead setting.form.hex old new (by_fault result)
  pub readers : AskForReaders setting.form.hex setting.workers old new
  pub no_write : NeverWrite (by_fault result)
