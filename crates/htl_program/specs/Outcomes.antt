-- What comes of a question and of a conversion in a world (this project's own). Each is said of the inputs that were opened for it, as they
-- are by then.
use Rattle.std.specs.Prelude.{◌≡◌, ◌≢◌, ◌⊎◌, [], ℕ, false, All, List, map, Option, option_map, Result, Err, String, string_bytes}
use Rattle.htl_command.specs.declared.command.Run.{Run}
use Rattle.htl_device.specs.States.{SinkState, SourceState, ends, fresh, lefts}
use Rattle.htl_inputs.specs.declared.fault.RunFault.{RunFault}
use Rattle.htl_main.specs.Origins.{by_fault}
use Rattle.htl_main.specs.Runs.{LeavesSink, Ends, RunsOut}
use Rattle.htl_main.specs.declared.completed.Completed.{Completed}
use Rattle.htl_main.specs.declared.refused.Refused.{Refused}
use Rattle.htl_command.specs.declared.question.Job.{Job}
use Rattle.htl_main.specs.Causes.{IsSourcesCause}
use Rattle.htl_ask.specs.OverStates.{IsAnsweredOverStates}
use Rattle.htl_world.specs.Endings.{IsUnopened, IsUntabled}
use Rattle.htl_world.specs.Readings.{AreAskedFor, IsUnopenedFor, ReadsInputs}
use Rattle.htl_world.specs.Rounds.{Asks, EndsEarly, OpensAgain, OpensInputs, inputs_opened}
use Rattle.htl_world.specs.Worlds.{IsAsked, IsTable, IsTableAbsent, WorldChange, HaveTexts, IsAbsentAt, of_each, of_inputs}

-- The answer was printed over inputs of these texts, or there is a reason why not, where the sources are these by then.
abbrev pub EndsRun : Job → List (List ℕ) → Option (List ℕ) → List SourceState → Option (List ℕ) → Option (List ℕ)
    → Result Completed Refused → Type 0
EndsRun job texts table sources old new result =
    Ends (IsSourcesCause job texts (lefts sources) (ends sources) table) job texts table old new result

-- A question was asked of its files and its table of symbols. The first name for which there is nothing is reported by its place. Each file
-- was opened once, in order, and then the table was read; only files that can be read again were opened more often.
pub record IsAnswered (world : WorldChange) (inputs : List SourceState) (run : Run) (old new : SinkState)
    (ended : Result Completed Refused) : Type 0 where
  pub ends : (texts : List (List ℕ)) → (table : Option (List ℕ)) → HaveTexts world.old.known run.files.items texts
      → IsTable world.old.known.holds run.symbols table
      → EndsRun run.job texts table inputs old.contents new.contents ended ⊎ RunsOut ended
  pub absent : (place : ℕ) → IsAbsentAt world.old.known run.files.items place → IsUnopened place (by_fault ended)
  pub untabled : (texts : List (List ℕ)) → HaveTexts world.old.known run.files.items texts
      → IsTableAbsent world.old.known.is_absent run.symbols → IsUntabled (by_fault ended)
  pub reads : ReadsInputs world.old.known run.job.setting.form.hex run.files.items inputs (by_fault ended)
  pub readers : AreAskedFor run.job.setting (of_inputs world.old.known.holds world.old.known.standard run.files.items) inputs
  pub sink : LeavesSink old new (by_fault ended)
  pub asked : Asks world (OpensInputs (map string_bytes run.files.items) (option_map string_bytes run.symbols) (by_fault ended)
      (OpensAgain world.old.known run.job.setting.form.hex (map string_bytes run.files.items) (by_fault ended)))

-- A question was asked of its files, or of standard input, where its command names no saved state; and else of its states and its files.
pub record EndsQuestion (world : WorldChange) (inputs : List SourceState) (run : Run) (old new : SinkState)
    (ended : Result Completed Refused) : Type 0 where
  pub files : run.states.items ≡ [] → IsAnswered world inputs run old new ended
  pub states : run.states.items ≢ [] → IsAnsweredOverStates world inputs run old new ended

-- Not all inputs of the names could be opened, as is reported. None is left open, and nothing was written.
pub record IsNoneOpened {A S E : Type 0} (refusal : RunFault → E) (world : WorldChange) (names : List (String A))
    (inputs : List SourceState) (old new : SinkState) (ended : Result S E) : Type 0 where
  pub fault : RunFault
  pub reported : ended ≡ Err (refusal fault)
  pub unopened : IsUnopenedFor (of_each world.old.known.holds names) (of_each world.old.known.is_absent names) fault
  pub asked : Asks world (EndsEarly (map string_bytes names) (inputs_opened (map string_bytes names)) fault)
  pub none : inputs ≡ []
  pub unwritten : new ≡ old
  pub fine : new.failed ≡ false

-- All inputs of the names were opened, each once and in order: none is absent. What a conversion promises of sources holds of these.
pub record IsConvertedOf {A S E : Type 0}
    (Converts : List SourceState → List SourceState → SinkState → SinkState → Result S E → Type 0) (world : WorldChange)
    (names : List (String A)) (inputs : List SourceState) (old new : SinkState) (ended : Result S E) : Type 0 where
  pub there : All (λ absent. absent ≡ false) (of_each world.old.known.is_absent names)
  pub asked : IsAsked world.old world.new (inputs_opened (map string_bytes names))
  pub converted : Converts (map fresh (of_inputs world.old.known.holds world.old.known.standard names)) inputs old new ended

-- Segments were printed as text, made of texts, or folded, which a conversion of sources promises; or not all inputs could be opened, which
-- is reported so.
abbrev pub IsConverted : {A S E : Type 0} → (RunFault → E)
    → (List SourceState → List SourceState → SinkState → SinkState → Result S E → Type 0) → WorldChange → List SourceState
    → List (String A) → SinkState → SinkState → Result S E → Type 0
IsConverted refusal Converts world inputs names old new ended =
    IsConvertedOf Converts world names inputs old new ended ⊎ IsNoneOpened refusal world names inputs old new ended
