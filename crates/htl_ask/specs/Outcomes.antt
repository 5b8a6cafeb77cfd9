-- What comes of a dialogue in a world (this project's own). It is said of the inputs that were opened for it, as they are by then.
use Rattle.std.specs.Prelude.{◌≡◌, ◌⊎◌, ℕ, Bool, List, All, map, OnOk, Option, Some, option_map, IfErr, Result, Ok, Err, string_bytes}
use Rattle.htl_command.specs.declared.command.Dialogue.{Dialogue}
use Rattle.htl_device.specs.States.{SinkState, SourceState}
use Rattle.htl_dialogue.specs.Dialogues.{Converses, DialogueStops}
use Rattle.htl_dialogue.specs.Notes.{OwnNote}
use Rattle.htl_dialogue.specs.declared.dialogue.Conversed.{Conversed}
use Rattle.htl_dialogue.specs.declared.note.Opening.{Opening}
use Rattle.htl_main.specs.Origins.{by_fault}
use Rattle.htl_segment.specs.Content.{Content}
use Rattle.htl_world.specs.Endings.{IsUnopened, IsUntabled}
use Rattle.htl_world.specs.Readings.{AreAskedFor}
use Rattle.htl_world.specs.Rounds.{Asks, OpensFiles}
use Rattle.htl_world.specs.Worlds.{FilesHaveTexts, IsTable, IsTableAbsent, Known, WorldChange, IsAbsentAt, of_each}
use Rattle.htl_ask.specs.Asking.{IsSavedState, KnownStates, ReportsDevices, Taken, answers_over, before_dialogue}
use Rattle.htl_ask.specs.Beginnings.{Begins, BeginsAndGets, EndsAtState, IsBeginsBetween, IsBeginsCause, ReadsAll, forgets, told_first}
use Rattle.htl_ask.specs.LineRounds.{AsksLater, ReadsStates}
use Rattle.htl_ask.specs.declared.ask_fault.AskFault.{AskFault}
use Rattle.htl_ask.specs.declared.ask_fault.AskFault.TheVariants as asks

-- What a dialogue goes over: its questions, as they were and as they are left; the output, as it was and is; how a note changes the
-- speaker, whether they want notes on answers, and who they were and are.
pub record Talk (S : Type 0) : Type 0 where
  pub questions : SourceState
  pub left : SourceState
  pub old : SinkState
  pub new : SinkState
  pub told : S → OwnNote → S
  pub wants_notes : Bool
  pub before : S
  pub after : S

abbrev pub talk : {S : Type 0} → SourceState → SourceState → SinkState → SinkState → (S → OwnNote → S) → Bool → S → S → Talk S
talk questions left old new told wants_notes before after = record {
  questions = questions;
  left = left;
  old = old;
  new = new;
  told = told;
  wants_notes = wants_notes;
  before = before;
  after = after;
}

-- after the opening the output got these replies, and the speaker these notes
abbrev pub HasGot : {S : Type 0} → List (List ℕ) → Talk S → Opening → List ℕ → List OwnNote → Type 0
HasGot names talk opening = BeginsAndGets names talk.old.contents talk.new.contents talk.told talk.before talk.after opening

-- A dialogue began with states that tell this, over inputs of these texts and with this table, and this holds of what was read before the
-- first line, as far as that is known, and of each text of its questions. It is told whether events are forgotten.
abbrev pub Began : {S : Type 0} → Dialogue → Option (List Content) → Talk S → List (List ℕ) → Option (List ℕ)
    → (Option Taken → Opening → List ℕ → Type 0) → Type 0
Began of told talk texts table Goes =
    (read : Option Taken) × (opening : Opening) × (opening.forgets ≡ forgets of)
    × Begins (forgets of) of.setting told table texts read opening
    × ((lines : List ℕ) → talk.questions.remaining ≡ Some lines → Goes read opening lines)

-- what the states that a dialogue begins with tell
abbrev pub told_before : {holds : List ℕ → Option (List ℕ)} → KnownStates holds → Dialogue → Option (List Content)
told_before states of = told_first states (map string_bytes of.states.items)

-- Each line got what a run of its own prints over what the names hold, or those before a fault did, whatever is known of saved states, and
-- what it saves was written in the change of the world; or no dialogue began, for a reason of the inputs, of the table or of a state, or
-- since memory was refused.
abbrev pub EndsConversing : {S : Type 0} → (world : Known) → KnownStates world.holds → WorldChange → List SourceState → Dialogue → Talk S
    → List (List ℕ) → Option (List ℕ) → Result Conversed AskFault → Type 0
EndsConversing world states whole inputs of talk texts table (Ok conversed) =
    Began of (told_before states of) talk texts table (λ read opening lines.
    Converses (answers_over world states whole of.setting (forgets of) table) talk.wants_notes read lines
    (HasGot (map string_bytes of.files.items) talk opening) conversed)
EndsConversing world states whole inputs of talk texts table (Err (asks.Dialogue stopped)) =
    Began of (told_before states of) talk texts table (λ read opening lines.
    DialogueStops (answers_over world states whole of.setting (forgets of) table) talk.wants_notes read lines
    talk.left.remaining talk.left.failed (HasGot (map string_bytes of.files.items) talk opening) stopped)
EndsConversing world states whole inputs of talk texts table (Err (asks.Run refused)) =
    IsBeginsCause (forgets of) of.setting (told_before states of) table texts inputs refused.fault
    ⊎ EndsAtState world states (map string_bytes of.states.items) refused.fault

-- A dialogue was held over the names of its states and files. What comes before the first line ends as any run does, which is said of the
-- fault alone. It begins only where each state was read and is one. Each file was opened once, in order, then the table of symbols was
-- read, and then each state, once and in order; later each line's files were opened, once and in order, and what a line merges was read and
-- what it saves was written, once.
pub record IsConversed {S : Type 0} (world : WorldChange) (inputs : List SourceState) (of : Dialogue) (talk : Talk S)
    (ended : Result Conversed AskFault) : Type 0 where
  pub outcome : (texts : List (List ℕ)) → (table : Option (List ℕ)) → FilesHaveTexts world.old.known of.files.items texts
      → IsTable world.old.known.holds of.symbols table → (states : KnownStates world.old.known.holds)
      → EndsConversing world.old.known states world inputs of talk texts table ended
  pub devices : ReportsDevices talk.questions.remaining talk.left talk.new.failed ended
  pub between : (texts : List (List ℕ)) → FilesHaveTexts world.old.known of.files.items texts
      → IfErr (before_dialogue ended) (λ refused. IsBeginsBetween (forgets of) of.setting texts refused.fault refused.between)
  pub states : OnOk (before_dialogue ended) (All (IsSavedState world.old.known) (map string_bytes of.states.items))
  pub absent : (place : ℕ) → IsAbsentAt world.old.known of.files.items place → IsUnopened place (by_fault (before_dialogue ended))
  pub untabled : (texts : List (List ℕ)) → FilesHaveTexts world.old.known of.files.items texts
      → IsTableAbsent world.old.known.is_absent of.symbols → IsUntabled (by_fault (before_dialogue ended))
  pub reads : (states : KnownStates world.old.known.holds)
      → ReadsAll world.old.known states of inputs (by_fault (before_dialogue ended))
  pub readers : AreAskedFor of.setting (of_each world.old.known.holds of.files.items) inputs
  pub asked : Asks world (OpensFiles (map string_bytes of.files.items) (option_map string_bytes of.symbols)
      (by_fault (before_dialogue ended)) (ReadsStates (map string_bytes of.states.items) (by_fault (before_dialogue ended))
      (AsksLater (forgets of) talk.questions.remaining (before_dialogue ended))))
