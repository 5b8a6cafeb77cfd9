-- What comes of a question over saved states in a world (this project's own): it is answered as a dialogue that begins with these states
-- and files replies to it. That is said of the inputs that were opened for it, as they are by then.
use Rattle.std.specs.Prelude.{◌≡◌, ◌⊎◌, [], ℕ, true, List, All, IfErr, OnOk, Option, None, Result, Ok, Err, map, option_map, string_bytes}
use Rattle.std.specs.Io.KnownBytes.{Appends}
use Rattle.htl_command.specs.declared.command.Dialogue.{Dialogue}
use Rattle.htl_command.specs.declared.command.Run.{Run}
use Rattle.htl_device.specs.Devices.{AppendsPrefix}
use Rattle.htl_device.specs.States.{SinkState, SourceState}
use Rattle.htl_dialogue.specs.declared.note.Opening.{Opening}
use Rattle.htl_inputs.specs.declared.fault.RunFault.{RunFault}
use Rattle.htl_inputs.specs.declared.fault.RunFault.TheVariants.{Incomplete, Write}
use Rattle.htl_main.specs.Folding.{IsHalfKnown}
use Rattle.htl_main.specs.Origins.{by_fault}
use Rattle.htl_main.specs.Runs.{LeavesSink}
use Rattle.htl_main.specs.declared.completed.Completed.{Completed}
use Rattle.htl_main.specs.declared.printing.AnswerText.{AnswerText}
use Rattle.htl_main.specs.declared.refused.Refused.{Refused}
use Rattle.htl_segment.specs.Content.{Content}
use Rattle.htl_world.specs.Endings.{IsUnopened, IsUntabled}
use Rattle.htl_world.specs.Readings.{AreAskedFor}
use Rattle.htl_world.specs.Rounds.{Asks, OpensFiles}
use Rattle.htl_world.specs.Worlds.{FilesHaveTexts, IsAbsentAt, IsTable, IsTableAbsent, Known, WorldChange, of_each}
use Rattle.htl_ask.specs.Asking.{IsOutcomeOver, IsSavedState, KnownStates, Taken}
use Rattle.htl_ask.specs.Beginnings.{Begins, EndsAtState, IsBeginsCause, ReadsAll}
use Rattle.htl_ask.specs.LineRounds.{ReadsStates}
use Rattle.htl_ask.specs.Outcomes.{told_before}

-- the beginning of a dialogue of the run's names, which folds what it reads
abbrev pub beginning_of : Run → Dialogue
beginning_of run = record {
  setting = run.job.setting;
  folds = true;
  states = run.states;
  files = run.files;
  symbols = run.symbols;
}

-- what the states of the run tell
abbrev pub told_of_states : {holds : List ℕ → Option (List ℕ)} → KnownStates holds → Run → Option (List Content)
told_of_states states run = told_before states (beginning_of run)

-- Such a dialogue would begin with states that tell this, over inputs of these texts and with this table, and this holds of what was read
-- then, as far as that is known, and of what is told of it.
abbrev pub BeganOver : Run → Option (List Content) → List (List ℕ) → Option (List ℕ) → (Option Taken → Opening → Type 0) → Type 0
BeganOver run told texts table Goes =
    (read : Option Taken) × (opening : Opening) × Begins true run.job.setting told table texts read opening × Goes read opening

-- The answer over what was read was printed, as it is replied in the dialogue, and this is reported beside it. It is never told that
-- nothing can be found, since events were forgotten.
pub record AnswersStates (run : Run) (table : Option (List ℕ)) (old new : Option (List ℕ)) (completed : Completed) (read : Option Taken)
    (opening : Opening) : Type 0 where
  pub answer : AnswerText
  pub is : IsOutcomeOver run.job.setting table read run.job (Ok answer)
  pub printed : Appends old new answer.lines.items
  pub coverage : completed.coverage ≡ opening.coverage
  pub cut : completed.cut ≡ opening.cut
  pub absence : completed.absence ≡ None
  pub remarks : completed.remarks ≡ answer.remarks

-- why the answer over what was read wasn't printed: a complete trace is asked for, and a segment is missing; or a write failed, and some
-- first part of the answer was written
abbrev pub IsUnprinted : Run → Option (List ℕ) → Option (List ℕ) → Option (List ℕ) → RunFault → Option Taken → Type 0
IsUnprinted run table old new (Incomplete processor number) read =
    (run.job.setting.complete ≡ true) × IsOutcomeOver run.job.setting table read run.job (Err (Incomplete processor number))
IsUnprinted run table old new Write read =
    (answer : AnswerText) × IsOutcomeOver run.job.setting table read run.job (Ok answer) × AppendsPrefix old new answer.lines.items
IsUnprinted run table old new fault read = ⊥

-- Why there is no answer: no dialogue would begin, for a reason of the inputs, of the table or of a state, or since memory was refused; or
-- it would, and the answer wasn't printed.
abbrev pub IsUnanswered : (world : Known) → KnownStates world.holds → List SourceState → Run → List (List ℕ) → Option (List ℕ)
    → Option (List ℕ) → Option (List ℕ) → RunFault → Type 0
IsUnanswered world states inputs run texts table old new fault =
    IsBeginsCause true run.job.setting (told_of_states states run) table texts inputs fault
    ⊎ (EndsAtState world states (map string_bytes run.states.items) fault
    ⊎ BeganOver run (told_of_states states run) texts table (λ read opening. IsUnprinted run table old new fault read))

-- The answer was printed over the states and over inputs of these texts, with this table, or there is a reason why not, whatever is known
-- of saved states.
abbrev pub EndsOverStates : (world : Known) → KnownStates world.holds → List SourceState → Run → List (List ℕ) → Option (List ℕ)
    → Option (List ℕ) → Option (List ℕ) → Result Completed Refused → Type 0
EndsOverStates world states inputs run texts table old new (Ok completed) =
    BeganOver run (told_of_states states run) texts table (AnswersStates run table old new completed)
EndsOverStates world states inputs run texts table old new (Err refused) =
    IsUnanswered world states inputs run texts table old new refused.fault

-- A question was asked of its saved states, its files and its table of symbols. It is answered only where each state was read and is one.
-- The first file for which there is nothing is reported by its place. Each file was opened once, in order, then the table was read, and
-- then each state, once and in order; nothing else was asked for, and nothing was written but the answer.
pub record IsAnsweredOverStates (world : WorldChange) (inputs : List SourceState) (run : Run) (old new : SinkState)
    (ended : Result Completed Refused) : Type 0 where
  pub ends : (texts : List (List ℕ)) → (table : Option (List ℕ)) → FilesHaveTexts world.old.known run.files.items texts
      → IsTable world.old.known.holds run.symbols table → (states : KnownStates world.old.known.holds)
      → EndsOverStates world.old.known states inputs run texts table old.contents new.contents ended
  -- Which two segments a fault is about isn't known: one of them may be forgotten.
  pub between : IfErr ended (λ refused. IsHalfKnown refused.fault refused.between)
  pub states : OnOk ended (All (IsSavedState world.old.known) (map string_bytes run.states.items))
  pub absent : (place : ℕ) → IsAbsentAt world.old.known run.files.items place → IsUnopened place (by_fault ended)
  pub untabled : (texts : List (List ℕ)) → FilesHaveTexts world.old.known run.files.items texts
      → IsTableAbsent world.old.known.is_absent run.symbols → IsUntabled (by_fault ended)
  pub reads : (states : KnownStates world.old.known.holds)
      → ReadsAll world.old.known states (beginning_of run) inputs (by_fault ended)
  pub readers : AreAskedFor run.job.setting (of_each world.old.known.holds run.files.items) inputs
  pub sink : LeavesSink old new (by_fault ended)
  pub asked : Asks world (OpensFiles (map string_bytes run.files.items) (option_map string_bytes run.symbols) (by_fault ended)
      (ReadsStates (map string_bytes run.states.items) (by_fault ended) (λ more. more ≡ [])))
