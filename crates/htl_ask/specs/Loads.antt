-- For the clauses of private functions: what is kept answers the lines of a dialogue, before files are read and after, and a question over
-- saved states; and saved states are merged into it, and made of it.
use Rattle.std.specs.Prelude.{◌≡◌, ◌≢◌, ◌⊎◌, ◌∷◌, [], ⊤, ℕ, Bool, true, false, List, IfErr, IfOk, IfSome, OnOk, None, Some, Option}
use Rattle.std.specs.Prelude.{All, Result, Ok, Err, is_some, length, map, string_bytes}
use Rattle.std.specs.Io.KnownBytes.{Appends}
use Rattle.htl_command.specs.Needs.{needs_events}
use Rattle.htl_command.specs.declared.command.Dialogue.{Dialogue}
use Rattle.htl_command.specs.declared.command.Run.{Run}
use Rattle.htl_command.specs.declared.question.Job.{Job}
use Rattle.htl_command.specs.declared.question.Setting.{Setting}
use Rattle.htl_device.specs.Devices.{AppendsPrefix}
use Rattle.htl_device.specs.States.{SinkState, SourceState, IfKnown}
use Rattle.htl_inputs.specs.declared.fault.RunFault.{RunFault}
use Rattle.htl_inputs.specs.declared.fault.RunFault.TheVariants.{Incomplete, Memory, StateRead, StateWrite, Write}
use Rattle.htl_dialogue.specs.Dialogues.{Answers, answers_by}
use Rattle.htl_dialogue.specs.declared.note.Opening.{Opening}
use Rattle.htl_dialogue.specs.declared.saying.Said.{Said}
use Rattle.htl_dialogue.specs.declared.saying.Said.TheVariants as said
use Rattle.htl_main.specs.Completeness.{IsComplete, IsLeastMissing}
use Rattle.htl_main.specs.Coverages.{IsCoverage}
use Rattle.htl_main.specs.Folding.{AreFolded, IsAskedOver, IsCollectionOf, IsHalfKnown, folding}
use Rattle.htl_main.specs.Loading.{AreLoadedOf}
use Rattle.htl_main.specs.Origins.{by_fault}
use Rattle.htl_main.specs.Printed.{HasSymbols, WorkersFit}
use Rattle.htl_inputs.specs.Reads.{NeverWrite}
use Rattle.htl_inputs.specs.Readings.{AreRead, AskForReaders}
use Rattle.htl_main.specs.Runs.{EndsAdding, LeavesSink, RunsOut}
use Rattle.htl_main.specs.SavedStates.{IsStateOfFolded, IsUnsaved, MergesAs}
use Rattle.htl_main.specs.Subjects.{HasAbsence}
use Rattle.htl_main.specs.declared.loading.adding.Added.{Added}
use Rattle.htl_main.specs.declared.completed.Absence.{Absence}
use Rattle.htl_main.specs.declared.completed.Completed.{Completed}
use Rattle.htl_main.specs.declared.folding.Folded.{Folded}
use Rattle.htl_main.specs.declared.loading.Loaded.{Loaded}
use Rattle.htl_main.specs.declared.printing.AnswerText.{AnswerText}
use Rattle.htl_main.specs.declared.refused.Refused.{Refused}
use Rattle.htl_segment.specs.Content.{Content}
use Rattle.htl_segment.specs.Traces.{Trace}
use Rattle.htl_world.specs.Rounds.{Asks}
use Rattle.htl_world.specs.Worlds.{Ask, IsAsked, Known, WorldChange, to_write}
use Rattle.htl_world.specs.declared.world.OpenFault.TheVariants as opens
use Rattle.htl_ask.specs.Asking.{GoesOn, HasWritten, IsAnswerText, IsFolding, IsSavedState, KnownStates, ReadsNames, Taken, found, inputs}
use Rattle.htl_ask.specs.Asking.{one_is_absent, segments}
use Rattle.htl_ask.specs.Beginnings.{AllFit, Begins, EndsAtState, IsBeginsBetween, IsBeginsCause, ReadsBehind, forgets, told_first}
use Rattle.htl_ask.specs.LineRounds.{EndsReading, ReadsStates, all_read}
use Rattle.htl_ask.specs.Outcomes.{told_before}
use Rattle.htl_ask.specs.OverStates.{EndsOverStates}
use Rattle.htl_ask.specs.declared.kept.Begun.{Begun}
use Rattle.htl_ask.specs.declared.kept.Kept.{Kept}
use Rattle.htl_ask.specs.declared.kept.Kept.TheVariants.{Case, State}

abbrev pub is_state : Kept → Bool
is_state (Case loaded) = false
is_state (State folded) = true

-- memory was refused
abbrev pub is_memory : RunFault → Bool
is_memory Memory = true
is_memory fault = false

-- a question is one that what is kept answers, and a state is merged or saved only of what was folded
abbrev pub IsOfForm : Bool → Said → Type 0
IsOfForm forgets (said.Asks job) = forgets ≡ true → needs_events job ≡ false
IsOfForm forgets (said.Merges name) = forgets ≡ true
IsOfForm forgets (said.Saves name) = forgets ≡ true
IsOfForm forgets other = ⊤

-- ---- what is kept

-- This answers the job, or it isn't answered for this fault. That the coverage of a case is known is a premise, which every step keeps; and
-- so is that a state was folded of segments. What is asked for complete and misses a segment isn't answered.
abbrev pub HasOutcomeIn : Bool → Kept → Job → Result AnswerText RunFault → Type 0
HasOutcomeIn complete (Case loaded) job (Ok answer) =
    IsCoverage loaded.case loaded.coverage → IsAnswerText loaded.case loaded.symbols job answer
HasOutcomeIn complete (State folded) job (Ok answer) =
    (taken : List Content) (T : Trace) → AreFolded folded.analyst taken → IsAskedOver job.question taken T
    → IsAnswerText T folded.symbols job answer × (complete ≡ true → IsComplete T [])
HasOutcomeIn complete (State folded) job (Err (Incomplete processor number)) =
    (complete ≡ true) × ((taken : List Content) (T : Trace) → AreFolded folded.analyst taken → IsCollectionOf taken T
    → IsLeastMissing T [] processor number)
HasOutcomeIn complete kept job (Err fault) = ⊥

-- a state can't tell that nothing can be found
abbrev pub HasAbsenceIn : Kept → Job → Option Absence → Type 0
HasAbsenceIn (Case loaded) job absence = IsCoverage loaded.case loaded.coverage → HasAbsence loaded.case job absence
HasAbsenceIn (State folded) job absence = absence ≡ None

-- What is kept is of what was read, where that is known.
abbrev pub AreKept : Setting → Option (List ℕ) → Kept → Taken → Type 0
AreKept setting symbols (Case loaded) (inputs texts) = AreLoadedOf texts symbols setting None loaded.case loaded.symbols
AreKept setting symbols (State folded) (segments taken) = AreFolded folded.analyst taken × HasSymbols symbols folded.symbols
AreKept setting symbols kept read = ⊥

-- ---- reading more

-- Files of these names were read in a world and added to what was loaded, and that ended so.
pub record AddsFiles (world : Known) (setting : Setting) (before : Loaded) (names : List (List ℕ)) (after : Loaded)
    (ended : Result Added Refused) : Type 0 where
  pub sources : List SourceState
  pub reads : ReadsNames world setting names sources (by_fault ended)
  pub adds : (texts : List (List ℕ)) → map world.holds names ≡ map Some texts
      → EndsAdding setting before.case.segments texts sources after.case ended ⊎ RunsOut ended
  pub coverage : IfOk ended (λ added. IsCoverage after.case after.coverage)
  pub symbols : after.symbols ≡ before.symbols
  pub same : IfErr ended (λ refused. after ≡ before)

-- The same of files that were folded behind what was folded. After refused memory it isn't known how they were read and what was taken.
pub record FoldsFiles (world : Known) (setting : Setting) (before : Folded) (names : List (List ℕ)) (after : Folded)
    (ended : Result Added Refused) : Type 0 where
  pub sources : List SourceState
  pub reads : GoesOn ended → ReadsNames world setting names sources (by_fault ended)
  pub folds : GoesOn ended → (taken : List Content) (texts : List (List ℕ)) → AreFolded before.analyst taken
      → map world.holds names ≡ map Some texts
      → IsFolding (folding setting taken texts sources) (AreFolded after.analyst) ended
  pub unopened : found world names ≡ one_is_absent → after ≡ before
  pub symbols : after.symbols ≡ before.symbols

abbrev pub ReadsFiles : Known → Setting → Kept → List (List ℕ) → Kept → Result Added Refused → Type 0
ReadsFiles world setting (Case before) names (Case after) ended = AddsFiles world setting before names after ended
ReadsFiles world setting (State before) names (State after) ended = FoldsFiles world setting before names after ended × GoesOn ended
ReadsFiles world setting before names after ended = ⊥

-- ---- saved states

-- The name gave bytes, and the state that they are was merged into what was folded, or refused; or the name gave none, and what was folded
-- stays; or memory was refused.
abbrev pub MergesFolded : Known → Setting → Folded → List ℕ → Folded → Result Added RunFault → Type 0
MergesFolded world setting before name after ended =
    ((bytes : List ℕ) × IfSome (world.holds name) (λ held. bytes ≡ held) × (world.is_absent name ≡ false)
    × MergesAs setting bytes before after ended)
    ⊎ (((ended ≡ Err (StateRead 0)) × (world.holds name ≡ None) × (after ≡ before)) ⊎ (ended ≡ Err Memory))

-- The same of what is kept, in a dialogue that goes on. It isn't known which two segments a fault is about that is about two.
abbrev pub MergesFile : Known → Setting → Kept → List ℕ → Kept → Result Added Refused → Type 0
MergesFile world setting (State before) name (State after) ended =
    MergesFolded world setting before name after (by_fault ended) × GoesOn ended
    × IfErr ended (λ refused. IsHalfKnown refused.fault refused.between)
MergesFile world setting before name after ended = ⊥

-- Nothing but asks comes before this part of the change of a world, and after it.
pub record IsPartOf (part whole : WorldChange) : Type 0 where
  pub earlier : List Ask
  pub before : IsAsked whole.old part.old earlier
  pub later : List Ask
  pub after : IsAsked part.new whole.new later

-- how the saving of what was folded under a name ends, and what was written then
abbrev pub SavesFolded : WorldChange → Folded → List ℕ → Result ℕ RunFault → Type 0
SavesFolded whole folded name (Ok count) =
    (bytes : List ℕ) × (count ≡ length bytes) × IsStateOfFolded folded bytes × HasWritten whole name bytes
SavesFolded whole folded name (Err StateWrite) = ⊤
SavesFolded whole folded name (Err fault) = IsUnsaved folded.analyst fault × (fault ≢ Memory)

abbrev pub SavesFile : WorldChange → Kept → List ℕ → Result ℕ RunFault → Type 0
SavesFile whole (State folded) name ended = SavesFolded whole folded name ended
SavesFile whole (Case loaded) name ended = ⊥

-- The state of what was folded was written under a name; or the world refused that; or there is none that can be written, and nothing was
-- asked for.
abbrev pub WritesFolded : WorldChange → Folded → List ℕ → Result ℕ RunFault → Type 0
WritesFolded world folded name (Ok count) =
    (bytes : List ℕ) × (count ≡ length bytes) × IsStateOfFolded folded bytes × IsAsked world.old world.new (to_write name bytes None ∷ [])
WritesFolded world folded name (Err StateWrite) =
    (bytes : List ℕ) × IsStateOfFolded folded bytes × IsAsked world.old world.new (to_write name bytes (Some opens.Refused) ∷ [])
WritesFolded world folded name (Err fault) = IsUnsaved folded.analyst fault × (fault ≢ Memory) × IsAsked world.old world.new []

abbrev pub WritesFile : WorldChange → Kept → List ℕ → Result ℕ RunFault → Type 0
WritesFile world (State folded) name ended = WritesFolded world folded name ended
WritesFile world (Case loaded) name ended = ⊥

-- ---- a dialogue

-- who answers from what is kept, in the change of a world that the whole dialogue is
abbrev pub answers_from : Known → WorldChange → Setting → Bool → Bool → Answers Kept
answers_from world whole setting forgets has_table =
    answers_by forgets has_table (HasOutcomeIn setting.complete) HasAbsenceIn (ReadsFiles world setting)
    (MergesFile world setting) (SavesFile whole)

-- What was folded of states is of these segments, where they are known.
abbrev pub IsFoldedOf : Option (List Content) → Folded → Type 0
IsFoldedOf told folded = IfSome told (AreFolded folded.analyst)

-- the same where something is folded
abbrev pub IsOfTold : Option Folded → Option (List Content) → Type 0
IsOfTold None told = ⊤
IsOfTold (Some folded) told = IsFoldedOf told folded

-- The world was asked for all bytes of each of the names, or of those up to the one at which that ended.
abbrev pub AsksForStates : {S : Type 0} → WorldChange → List (List ℕ) → Result S RunFault → Type 0
AsksForStates world names (Ok read) = IsAsked world.old world.new (all_read names)
AsksForStates world names (Err fault) = Asks world (EndsReading names fault)

-- The states of these names were read and merged; or that ended at one of them.
pub record RestoresAs (world : WorldChange) (names : List (List ℕ)) (result : Result Folded Refused) : Type 0 where
  pub told : (states : KnownStates world.old.known.holds) → IfOk result (IsFoldedOf (told_first states names))
  pub states : OnOk result (All (IsSavedState world.old.known) names)
  pub fit : (states : KnownStates world.old.known.holds) → OnOk result (AllFit states (Some []) names)
  pub refused : (states : KnownStates world.old.known.holds)
      → IfErr result (λ refused. EndsAtState world.old.known states names refused.fault)
  pub between : IfErr result (λ refused. IsHalfKnown refused.fault refused.between)
  pub asked : AsksForStates world names (by_fault result)

-- The same of the states that a dialogue begins with, where it folds what is read.
pub record RestoresBefore (world : WorldChange) (of : Dialogue) (result : Result (Option Folded) Refused) : Type 0 where
  pub told : (states : KnownStates world.old.known.holds) → IfOk result (λ before. IsOfTold before (told_before states of))
  pub form : IfOk result (λ before. is_some before ≡ forgets of)
  pub states : OnOk result (All (IsSavedState world.old.known) (map string_bytes of.states.items))
  pub fit : (states : KnownStates world.old.known.holds) → OnOk result (AllFit states (Some []) (map string_bytes of.states.items))
  pub refused : (states : KnownStates world.old.known.holds)
      → IfErr result (λ refused. EndsAtState world.old.known states (map string_bytes of.states.items) refused.fault)
  pub between : IfErr result (λ refused. IsHalfKnown refused.fault refused.between)
  pub asked : AsksForStates world (map string_bytes of.states.items) (by_fault result)

-- what a speaker is told of what there is before the first line
abbrev pub opening_of : Bool → Begun → Opening
opening_of folds begun = record { coverage = begun.coverage; cut = begun.cut; forgets = folds }

-- What there is before the first line, by what was read, as far as that is known.
pub record IsBegun (folds : Bool) (setting : Setting) (told : Option (List Content)) (symbols : Option (List ℕ)) (texts : List (List ℕ))
    (begun : Begun) : Type 0 where
  pub read : Option Taken
  pub kept : IfSome read (AreKept setting symbols begun.kept)
  pub opens : Begins folds setting told symbols texts read (opening_of folds begun)

-- how much of its trace a case has is known
abbrev pub IsCovered : Kept → Type 0
IsCovered (Case loaded) = IsCoverage loaded.case loaded.coverage
IsCovered (State folded) = ⊤

-- A dialogue has something before its first line; or there is a reason why not, and two segments that it is about.
abbrev pub EndsKeeping : Bool → Setting → Option (List Content) → Option (List ℕ) → List (List ℕ) → List SourceState
    → Result Begun Refused → Type 0
EndsKeeping folds setting told symbols texts new (Ok begun) = IsBegun folds setting told symbols texts begun
EndsKeeping folds setting told symbols texts new (Err refused) =
    IsBeginsCause folds setting told symbols texts new refused.fault × IsBeginsBetween folds setting texts refused.fault refused.between

-- Inputs were read, and their segments folded behind what was folded before, or kept where nothing is folded.
pub record KeepsAs (before : Option Folded) (setting : Setting) (symbols : Option (List ℕ)) (old new : List SourceState)
    (result : Result Begun Refused) : Type 0 where
  pub outcome : (told : Option (List Content)) → IsOfTold before told
      → IfKnown old (λ texts. EndsKeeping (is_some before) setting told symbols texts new result)
  pub between : IfErr result (λ refused. is_some before ≡ true → IsHalfKnown refused.fault refused.between)
  pub form : IfOk result (λ begun. is_state begun.kept ≡ is_some before)
  pub coverage : IfOk result (λ begun. IsCovered begun.kept)
  pub workers : OnOk result (WorkersFit setting.workers)
  pub reading : AreRead setting.form.hex old new (by_fault result)
  pub readers : AskForReaders setting.form.hex setting.workers old new
  pub no_write : NeverWrite (by_fault result)

-- ---- a question over saved states

-- The answer to a job over what was read was printed, and this is reported beside it.
pub record AnswersBegun (begun : Begun) (job : Job) (old new : Option (List ℕ)) (completed : Completed) : Type 0 where
  pub answer : AnswerText
  pub is : HasOutcomeIn job.setting.complete begun.kept job (Ok answer)
  pub printed : Appends old new answer.lines.items
  pub coverage : completed.coverage ≡ begun.coverage
  pub cut : completed.cut ≡ begun.cut
  pub absence : completed.absence ≡ None
  pub remarks : completed.remarks ≡ answer.remarks

-- why the answer over what is kept wasn't printed
abbrev pub IsUnprintedIn : Kept → Job → Option (List ℕ) → Option (List ℕ) → RunFault → Type 0
IsUnprintedIn kept job old new Write =
    (answer : AnswerText) × HasOutcomeIn job.setting.complete kept job (Ok answer) × AppendsPrefix old new answer.lines.items
IsUnprintedIn kept job old new Memory = ⊤
IsUnprintedIn kept job old new fault = HasOutcomeIn job.setting.complete kept job (Err fault)

abbrev pub EndsBegun : Begun → Job → Option (List ℕ) → Option (List ℕ) → Result Completed RunFault → Type 0
EndsBegun begun job old new (Ok completed) = AnswersBegun begun job old new completed
EndsBegun begun job old new (Err fault) = IsUnprintedIn begun.kept job old new fault

-- The same, or there is a reason why not.
pub record PrintsBegun (begun : Begun) (job : Job) (before after : SinkState) (result : Result Completed RunFault) : Type 0 where
  pub outcome : EndsBegun begun job before.contents after.contents result
  pub sink : LeavesSink before after result

-- The states were read, and then the opened inputs of a question over states, and the answer was printed; or there is a reason why not.
pub record AnswersOpened (known : Known) (world : WorldChange) (run : Run) (table : Option (List ℕ)) (old new : List SourceState)
    (before after : SinkState) (ended : Result Completed Refused) : Type 0 where
  pub ends : IfKnown old (λ texts. (states : KnownStates known.holds)
      → EndsOverStates known states new run texts table before.contents after.contents ended)
  pub between : IfErr ended (λ refused. IsHalfKnown refused.fault refused.between)
  pub states : OnOk ended (All (IsSavedState known) (map string_bytes run.states.items))
  pub reading : (states : KnownStates known.holds)
      → ReadsBehind known states run.job.setting.form.hex (map string_bytes run.states.items) old new (by_fault ended)
  pub readers : AskForReaders run.job.setting.form.hex run.job.setting.workers old new
  pub sink : LeavesSink before after (by_fault ended)
  pub asked : Asks world (ReadsStates (map string_bytes run.states.items) (by_fault ended) (λ more. more ≡ []))
