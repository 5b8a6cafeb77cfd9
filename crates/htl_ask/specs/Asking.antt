-- What asking comes to (this project's own). Who answers is known by what was read so far, as far as that is known: the texts of all
-- inputs, where their segments are kept, or the segments that were taken, where these are forgotten. A question gets the text that a run of
-- its own over these prints, or isn't answered while a segment is missing of a trace that is asked for complete.
use Rattle.std.specs.Prelude.{◌≡◌, ◌≢◌, ◌≤◌, ◌⊎◌, ◌++◌, ◌∷◌, [], ⊤, ℕ, Bool, true, false, List, Option, None, Some, Result, Ok, Err, IfErr}
use Rattle.std.specs.Prelude.{IfSome, OnOk, if◌then◌else◌, is_some, length, map}
use Rattle.htl_analyst.specs.States.{State as Analyst}
use Rattle.htl_case.specs.Cases.{IsCaseOf}
use Rattle.htl_case.specs.declared.fault.CaseFault.TheVariants.{Empty}
use Rattle.htl_command.specs.declared.question.Job.{Job}
use Rattle.htl_command.specs.declared.question.Setting.{Setting}
use Rattle.htl_device.specs.States.{SourceState, good_reads, has_failed}
use Rattle.htl_device.specs.declared.whole.TheConstants.{MAX_READS}
use Rattle.htl_inputs.specs.Inputs.{DecodeAll}
use Rattle.htl_inputs.specs.Sources.{IsEndless, IsTrueAt}
use Rattle.htl_inputs.specs.declared.fault.RunFault.{RunFault}
use Rattle.htl_inputs.specs.declared.fault.RunFault.TheVariants.{Case, Incomplete, Memory, Read, State, StateRead, StateStacks, StateWrite}
use Rattle.htl_inputs.specs.declared.fault.RunFault.TheVariants.{Unbounded}
use Rattle.htl_dialogue.specs.Dialogues.{Answers, answers_by}
use Rattle.htl_dialogue.specs.Lines.{lines_of_dialogue}
use Rattle.htl_dialogue.specs.declared.dialogue.DialogueFault.TheVariants.{Questions, Write}
use Rattle.htl_main.specs.Completeness.{IsComplete, IsLeastMissing}
use Rattle.htl_main.specs.Folding.{Folding, IsAskedOver, IsCollectionOf, IsFolded, IsFoldingRefused, IsHalfKnown, folding}
use Rattle.htl_main.specs.Loading.{in_setting}
use Rattle.htl_main.specs.Origins.{by_fault}
use Rattle.htl_main.specs.Printed.{HasSymbols, IsText, Printed}
use Rattle.htl_main.specs.Remarks.{RemarksOver, ReportsRemarks}
use Rattle.htl_main.specs.Runs.{EndsAdding, RunsOut}
use Rattle.htl_main.specs.SavedStates.{AreOfOne, EndsMerging, IsNoState, IsStateOf}
use Rattle.htl_main.specs.Subjects.{ReportsAbsence}
use Rattle.htl_main.specs.declared.loading.adding.Added.{Added}
use Rattle.htl_main.specs.declared.completed.Absence.{Absence}
use Rattle.htl_main.specs.declared.printing.AnswerText.{AnswerText}
use Rattle.htl_main.specs.declared.refused.Refused.{Refused}
use Rattle.htl_main.specs.declared.remarks.Remarks.{Remarks}
use Rattle.htl_saved.specs.Loads.{IsLoaded}
use Rattle.htl_segment.specs.Content.{Content}
use Rattle.htl_segment.specs.Traces.{Trace}
use Rattle.htl_symbols.specs.Ranges.{Range}
use Rattle.htl_world.specs.Endings.{IsUnopened}
use Rattle.htl_world.specs.Readings.{AreAskedFor, AreInputs}
use Rattle.htl_world.specs.Worlds.{Ask, IsAsked, Known, IsFirstAbsent, IsFirstRefused, WorldChange, to_write}
use Rattle.htl_ask.specs.declared.ask_fault.AskFault.{AskFault}
use Rattle.htl_ask.specs.declared.ask_fault.AskFault.TheVariants.{Run, Dialogue}

-- the job of a run of its own, whose status says nothing of what its answer finds
abbrev pub own_run : Setting → Job → Job
own_run setting job = record (in_setting setting job) { exit_code = false }

-- This is what a run of its own prints for the job, over these inputs and symbols, read in this setting.
abbrev pub IsRunsText : Setting → Option (List ℕ) → List (List ℕ) → Job → List ℕ → Type 0
IsRunsText setting symbols inputs job text = Printed (own_run setting job) inputs symbols (Ok text)

-- This is what it tells of its answer, and why nothing can be found of what is asked about.
abbrev pub AreRunsRemarks : Setting → Option (List ℕ) → List (List ℕ) → Job → Remarks → Type 0
AreRunsRemarks setting symbols inputs job remarks = ReportsRemarks (own_run setting job) inputs symbols remarks

abbrev pub IsRunsAbsence : Setting → List (List ℕ) → Job → Option Absence → Type 0
IsRunsAbsence setting inputs job absence = ReportsAbsence inputs (own_run setting job) absence

-- This answers the job over a trace, with these names of addresses.
pub record IsAnswerText (T : Trace) (table : List Range) (job : Job) (answer : AnswerText) : Type 0 where
  pub text : IsText T table job answer.lines.items
  pub remarks : RemarksOver T table job answer.remarks

-- ---- what was read

-- what was read so far: inputs of these texts, whose segments are kept; or these segments, which were taken and forgotten
pub data Taken : Type 0 where
  inputs : List (List ℕ) → Taken
  segments : List Content → Taken

-- This is what a run prints and tells over the first segment of each key, where the question can be asked over these: the answer by the
-- definition's value over all of them. Where a complete trace is asked for, none is missing.
abbrev pub IsFoldsAnswer : Setting → Option (List ℕ) → List Content → Job → AnswerText → Type 0
IsFoldsAnswer setting symbols taken job answer =
    (T : Trace) → IsAskedOver job.question taken T
    → ((table : List Range) × HasSymbols symbols table × IsAnswerText T table job answer) × (setting.complete ≡ true → IsComplete T [])

-- A complete trace is asked for, and of the segments that were taken this is the least key that is missing.
abbrev pub IsFoldsGap : Setting → List Content → RunFault → Type 0
IsFoldsGap setting taken (Incomplete processor number) =
    (setting.complete ≡ true) × ((T : Trace) → IsCollectionOf taken T → IsLeastMissing T [] processor number)
IsFoldsGap setting taken fault = ⊥

-- The answer to a question, or why it isn't answered: a gap of what was taken and forgotten. (Inputs whose segments are kept have none
-- where a complete trace is asked for, since they would have been refused.)
abbrev pub IsOutcomeOver : Setting → Option (List ℕ) → Option Taken → Job → Result AnswerText RunFault → Type 0
IsOutcomeOver setting symbols None job outcome = ⊤
IsOutcomeOver setting symbols (Some (inputs texts)) job (Ok answer) =
    IsRunsText setting symbols texts job answer.lines.items × AreRunsRemarks setting symbols texts job answer.remarks
IsOutcomeOver setting symbols (Some (inputs texts)) job (Err fault) = ⊥
IsOutcomeOver setting symbols (Some (segments taken)) job (Ok answer) = IsFoldsAnswer setting symbols taken job answer
IsOutcomeOver setting symbols (Some (segments taken)) job (Err fault) = IsFoldsGap setting taken fault

-- Why nothing can be found of what a question is about. Where events were forgotten, it is never told that nothing can.
abbrev pub IsAbsenceOver : Setting → Option Taken → Job → Option Absence → Type 0
IsAbsenceOver setting None job absence = ⊤
IsAbsenceOver setting (Some (inputs texts)) job absence = IsRunsAbsence setting texts job absence
IsAbsenceOver setting (Some (segments taken)) job absence = absence ≡ None

-- ---- reading more

-- The names were opened and read as any run reads its sources, which these are by now. The first name for which there is nothing is
-- reported by its place, and a failed read of a name that was refused, or of a source whose read failed or gave bytes too often.
pub record ReadsNames {S : Type 0} (world : Known) (setting : Setting) (names : List (List ℕ)) (sources : List SourceState)
    (result : Result S RunFault) : Type 0 where
  pub absent : (place : ℕ) → IsFirstAbsent (map world.holds names) (map world.is_absent names) place → IsUnopened place result
  pub reading : AreInputs setting.form.hex (map world.holds names) (map world.holds names) (map world.is_absent names) sources result
  pub readers : AreAskedFor setting (map world.holds names) sources
  pub read : (place : ℕ) → result ≡ Err (Read place)
      → IsFirstRefused (map world.holds names) (map world.is_absent names) place
      ⊎ (IsTrueAt (map has_failed sources) place ⊎ IsEndless (map good_reads sources) (map world.holds names) place)

-- What came of adding sources of these texts to what was read of inputs.
pub record AddsTo (setting : Setting) (inputs texts : List (List ℕ)) (sources : List SourceState) (ended : Result Added Refused)
    : Type 0 where
  pub segments : List Content
  pub decoded : DecodeAll setting.form inputs segments
  pub before : Trace
  pub case : IsCaseOf segments before
  pub after : Trace
  pub adds : EndsAdding setting before.segments texts sources after ended

-- what comes of a reading that folds, where this holds of all segments that were taken then
abbrev pub IsFolding : Folding → (List Content → Type 0) → Result Added Refused → Type 0
IsFolding of Keeps (Ok added) = IsFolded of.setting of.before of.inputs Keeps added
IsFolding of Keeps (Err refused) = IsFoldingRefused of Keeps refused.fault × IsHalfKnown refused.fault refused.between

-- What is known of names: they all hold these texts; or there is nothing to open for one of them, and what those before it hold is known;
-- or it is unknown what one of them holds.
pub data Found : Type 0 where
  all_hold : List (List ℕ) → Found
  one_is_absent : Found
  unknown : Found

-- the same with one name more in front, by what it holds and whether there is nothing to open
abbrev pub found_with : Option (List ℕ) → Bool → Found → Found
found_with (Some text) absent (all_hold texts) = all_hold (text ∷ texts)
found_with (Some text) absent more = more
found_with None true more = one_is_absent
found_with None false more = unknown

abbrev pub found : Known → List (List ℕ) → Found
found world [] = all_hold []
found world (name ∷ more) = found_with (world.holds name) (world.is_absent name) (found world more)

-- this holds of their texts, where these are known
abbrev pub IfAllHold : Found → (List (List ℕ) → Type 0) → Type 0
IfAllHold (all_hold texts) P = P texts
IfAllHold other P = ⊤

-- the inputs once all files were read: files of unknown texts leave them unknown
abbrev pub inputs_with : List (List ℕ) → Found → Option Taken
inputs_with before (all_hold texts) = Some (inputs (before ++ texts))
inputs_with before other = None

-- the inputs by then: refused files leave those from before
abbrev pub inputs_then : List (List ℕ) → Found → Result Added Refused → Option Taken
inputs_then before more (Ok added) = inputs_with before more
inputs_then before more (Err refused) = Some (inputs before)

-- The dialogue goes on: where memory was refused to what forgets, it isn't known what was taken, and nothing more is answered.
abbrev pub GoesOn : Result Added Refused → Type 0
GoesOn ended = IfErr ended (λ refused. refused.fault ≢ Memory)

-- What was read before leads to what was read then, where files were read, of whose names this is known. If one of them couldn't be opened,
-- nothing was read of any.
abbrev pub LeadsTo : Setting → Option Taken → Found → List SourceState → Option Taken → Result Added Refused → Type 0
LeadsTo setting None more sources after ended = after ≡ None
LeadsTo setting (Some (inputs before)) more sources after ended =
    (after ≡ inputs_then before more ended) × IfAllHold more (λ texts. AddsTo setting before texts sources ended ⊎ RunsOut ended)
LeadsTo setting (Some (segments before)) unknown sources after ended = GoesOn ended × (after ≡ None)
LeadsTo setting (Some (segments before)) one_is_absent sources after ended = GoesOn ended × (after ≡ Some (segments before))
LeadsTo setting (Some (segments before)) (all_hold texts) sources after ended =
    GoesOn ended × (taken : List Content) × (after ≡ Some (segments taken))
    × IsFolding (folding setting before texts sources) (λ all. all ≡ taken) ended

-- Files of these names were read in a world, and that ended so.
pub record ReadsMore (world : Known) (setting : Setting) (before : Option Taken) (names : List (List ℕ))
    (after : Option Taken) (ended : Result Added Refused) : Type 0 where
  pub sources : List SourceState
  pub reads : ReadsNames world setting names sources (by_fault ended)
  pub leads : LeadsTo setting before (found world names) sources after ended

-- ---- saved states

-- What is known of saved states, where it is known what names hold: of which segments the state of a name is, and whether two lists of
-- segments are known to be of one trace.
pub record KnownStates (holds : List ℕ → Option (List ℕ)) : Type 0 where
  pub tells : List ℕ → Option (List Content)
  pub are_of_one : List Content → List Content → Bool
  pub states : (name : List ℕ) → IfSome (tells name) (λ told. (bytes : List ℕ) × (holds name ≡ Some bytes) × IsStateOf bytes told)
  pub sound : (before told : List Content) → are_of_one before told ≡ true → AreOfOne before told

-- A name can be read, and what it holds is a state, where that is known.
pub record IsSavedState (world : Known) (name : List ℕ) : Type 0 where
  pub there : world.is_absent name ≡ false
  pub loaded : IfSome (world.holds name) (λ bytes. (analyst : Analyst) × IsLoaded bytes analyst)

-- the segments of a state, where these and others are known to be of one trace
abbrev pub if_of_one : (List Content → Bool) → Option (List Content) → Option (List Content)
if_of_one are None = None
if_of_one are (Some told) = if are told then Some told else None

-- Why the state of a name isn't merged, or a gap is reported of what was merged: the name isn't known to hold anything, or what it holds is
-- no state, or one that doesn't go with what was folded.
abbrev pub IsMergesFault : Option (List ℕ) → RunFault → Type 0
IsMergesFault held (StateRead place) = (place ≡ 0) × (held ≡ None)
IsMergesFault held (State place offset fault) = IfSome held (λ bytes. IsNoState bytes (State place offset fault))
IsMergesFault held (Unbounded place processor) = IfSome held (λ bytes. IsNoState bytes (Unbounded place processor))
IsMergesFault held (Case fault) = ⊤
IsMergesFault held (Incomplete processor number) = ⊤
IsMergesFault held fault = ⊥

-- What was read by then, where it isn't known of which segments a state is: that isn't known once it was merged, also where a gap is
-- reported then. A refused state changes nothing.
abbrev pub merged_unknown : List Content → Result Added RunFault → Option Taken
merged_unknown before (Ok added) = None
merged_unknown before (Err (Incomplete processor number)) = None
merged_unknown before (Err fault) = Some (segments before)

-- The same where there may be nothing under the name (`true`), so that nothing was merged; and where it may be known of which segments the
-- state is, which are of one trace with those from before: all of them are, once it was merged.
abbrev pub MergesTold : Bool → List Content → Bool → Option (List Content) → Option Taken → Result Added RunFault → Type 0
MergesTold complete before true told after ended = after ≡ Some (segments before)
MergesTold complete before false None after ended = after ≡ merged_unknown before ended
MergesTold complete before false (Some told) after ended =
    EndsMerging complete before told (λ all. after ≡ Some (segments all)) (after ≡ Some (segments before)) ended

-- The state of a name was to be merged into what was folded, whatever that was, and that ended so.
pub record MergesState (world : Known) (name : List ℕ) (ended : Result Added Refused) : Type 0 where
  pub goes_on : GoesOn ended
  pub absent : world.is_absent name ≡ true → by_fault ended ≡ Err (StateRead 0)
  pub loaded : OnOk ended (IsSavedState world name)
  pub fault : IfErr ended (λ refused. IsMergesFault (world.holds name) refused.fault × IsHalfKnown refused.fault refused.between)

-- The same where this was read before, as far as that is known, and what that leads to. Where segments are kept, no line merges a state.
abbrev pub MergesName : (world : Known) → KnownStates world.holds → Setting → Option Taken → List ℕ → Option Taken → Result Added Refused
    → Type 0
MergesName world states setting None name after ended = MergesState world name ended × (after ≡ None)
MergesName world states setting (Some (inputs texts)) name after ended = ⊥
MergesName world states setting (Some (segments before)) name after ended =
    MergesState world name ended × MergesTold setting.complete before (world.is_absent name)
    (if_of_one (states.are_of_one before) (states.tells name)) after (by_fault ended)

-- In the change of a world a name was to hold these bytes, and that wasn't refused.
abbrev pub HasWritten : WorldChange → List ℕ → List ℕ → Type 0
HasWritten world name bytes =
    (earlier : List Ask) × (later : List Ask) × IsAsked world.old world.new (earlier ++ to_write name bytes None ∷ later)

-- How the saving of these segments under a name ends: so many bytes were written there, which are their state. Nothing is saved where there
-- is none, where there are too many stacks, or where the bytes couldn't be written.
abbrev pub SavesSegments : WorldChange → List Content → List ℕ → Result ℕ RunFault → Type 0
SavesSegments world taken name (Ok count) =
    (taken ≢ []) × (bytes : List ℕ) × (count ≡ length bytes) × ((T : Trace) → IsCollectionOf taken T → IsStateOf bytes taken)
    × HasWritten world name bytes
SavesSegments world taken name (Err (Case Empty)) = taken ≡ []
SavesSegments world taken name (Err StateStacks) = taken ≢ []
SavesSegments world taken name (Err StateWrite) = ⊤
SavesSegments world taken name (Err fault) = ⊥

-- The same of what was read. Where segments are kept, no line saves them.
abbrev pub SavesName : WorldChange → Option Taken → List ℕ → Result ℕ RunFault → Type 0
SavesName world None name ended = ⊤
SavesName world (Some (inputs texts)) name ended = ⊥
SavesName world (Some (segments taken)) name ended = SavesSegments world taken name ended

-- Who answers from what was read so far. What is saved was written in the change of the world that the whole dialogue is.
abbrev pub answers_over : (world : Known) → KnownStates world.holds → WorldChange → Setting → Bool → Option (List ℕ)
    → Answers (Option Taken)
answers_over world states whole setting forgets symbols =
    answers_by forgets (is_some symbols) (IsOutcomeOver setting symbols) (IsAbsenceOver setting) (ReadsMore world setting)
    (MergesName world states setting) (SavesName whole)

-- ---- devices

-- After 2^32 reads that gave bytes, or as many lines where the text is known, the questions are taken for endless.
abbrev pub AreEndless : Option (List ℕ) → SourceState → Type 0
AreEndless text left = (MAX_READS ≤ left.good_reads) ⊎ IfSome text (λ text. MAX_READS ≤ length (lines_of_dialogue text))

-- What failed of the questions and of the output is reported, and nothing else is reported as failed. It is given what text the questions
-- have, where that is known, and how they are left.
pub record ReportsDevices {S : Type 0} (text : Option (List ℕ)) (left : SourceState) (write_failed : Bool) (ended : Result S AskFault)
    : Type 0 where
  pub lines : left.failed ≡ true → ended ≡ Err (Dialogue Questions)
  pub unread : ended ≡ Err (Dialogue Questions) → (left.failed ≡ true) ⊎ AreEndless text left
  pub full : write_failed ≡ true → ended ≡ Err (Dialogue Write)
  pub unwritten : ended ≡ Err (Dialogue Write) → write_failed ≡ true

-- how what comes before the dialogue ends: what ends the dialogue is no fault of it
abbrev pub before_dialogue : {S : Type 0} → Result S AskFault → Result (Unit {0}) Refused
before_dialogue (Ok conversed) = Ok tt
before_dialogue (Err (Run refused)) = Err refused
before_dialogue (Err (Dialogue fault)) = Ok tt
