-- What a fault is about, as a person calls it (this project's own).
use Rattle.std.specs.Prelude.{◌≡◌, ◌∷◌, ◌&&◌, ◌==◌, [], ⊤, ℕ, Bool, true, false, List, Option, None, Some, String, codes, if◌then◌else◌}
use Rattle.std.specs.Prelude.{is_some, length, nat_lt, not, slice_get, string_bytes}
use Rattle.std.specs.Option.{option_map_or}
use Rattle.htl_case.specs.declared.fault.CaseFault.TheVariants.{Empty, OtherTrace, OtherProcessors}
use Rattle.htl_command.specs.declared.command.Command.{Command}
use Rattle.htl_command.specs.declared.command.Command.TheVariants as wish
use Rattle.htl_ask.specs.Beginnings.{forgets}
use Rattle.htl_inputs.specs.declared.fault.RunFault.{RunFault}
use Rattle.htl_inputs.specs.declared.fault.RunFault.TheVariants.{Segment, Hex, Text, Case, Symbols, Read}
use Rattle.htl_inputs.specs.declared.fault.RunFault.TheVariants.{SymbolsRead, UnknownCut, Write}
use Rattle.htl_inputs.specs.declared.fault.RunFault.TheVariants.{State, Unbounded, StateRead, StateWrite, StateStacks}
use Rattle.htl_main.specs.Subjects.{since_of}
use Rattle.htl_program.specs.declared.explained.named_part.NamedPart.{NamedPart}
use Rattle.htl_program.specs.declared.explained.named_part.NamedPart.TheVariants as parts
use Rattle.htl_question.specs.Questions.{subject_of as asks_about}
use Rattle.htl_question.specs.declared.subject.Subject.{Subject}
use Rattle.hleak.specs.declared.explaining.task.Task.{Task}
use Rattle.hleak.specs.declared.explaining.task.Task.TheVariants.{Question, Convert, Ask, Read as Reads}

-- what is done for a command, where that has inputs
abbrev pub IsTaskOf : Command → Option Task → Type 0
IsTaskOf (wish.Question run) (Some (Question of)) = of.now ≡ run
IsTaskOf (wish.Dump form files) (Some (Convert of)) = of.now ≡ files.items
IsTaskOf (wish.Encode hex files) (Some (Convert of)) = of.now ≡ files.items
IsTaskOf (wish.Fold setting files) (Some (Convert of)) = of.now ≡ files.items
IsTaskOf (wish.Ask dialogue) (Some (Ask of)) = of.now ≡ dialogue
IsTaskOf (wish.Explain code) None = ⊤
IsTaskOf command other = ⊥

-- the name at a place, or else these words
abbrev pub name_among : {A : Type 0} → List (String A) → ℕ → List ℕ → List ℕ
name_among names place other = option_map_or string_bytes (slice_get names place) other

-- what is read where a question names no file: standard input, or where it names states, they alone
abbrev pub other_input : {A : Type 0} → List (String A) → List ℕ
other_input states = if length states == 0 then codes "standard input" else codes "the state"

-- the input at a place: the file of that place, or standard input where no file is named and no state. Where files are read within a
-- dialogue, what was read before is one more.
abbrev pub input_name : Task → ℕ → List ℕ
input_name (Question run) place = name_among run.now.files.items place (other_input run.now.states.items)
input_name (Convert of) place = name_among of.now place (codes "standard input")
input_name (Ask of) place = name_among of.now.files.items place (codes "standard input")
input_name (Reads of forgotten) place = name_among of.now place (codes "what was read before")

-- the saved state at a place: the file, where a line of a dialogue merges one, where a dialogue begins with it, or where a question is
-- asked of it
abbrev pub state_name : Task → ℕ → List ℕ
state_name (Reads of forgotten) place = input_name (Reads of forgotten) place
state_name (Question run) place = name_among run.now.states.items place (codes "the state")
state_name (Ask of) place = name_among of.now.states.items place (codes "the state")
state_name (Convert of) place = codes "the state"

-- what does not fit what was read before: the file, where a line of a dialogue reads one alone or merges one, or where a dialogue begins
-- with one after a saved state, or a question is asked of both, and else the program
abbrev pub alone : {A : Type 0} → List (String A) → List ℕ
alone (name ∷ []) = string_bytes name
alone names = codes "hleak"

abbrev pub alone_after : {A : Type 0} → List (String A) → List (String A) → List ℕ
alone_after (first ∷ []) files = alone files
alone_after (first ∷ name ∷ []) [] = string_bytes name
alone_after states files = codes "hleak"

abbrev pub alone_name : Task → List ℕ
alone_name (Reads of forgotten) = alone of.now
alone_name (Question run) = alone_after run.now.states.items run.now.files.items
alone_name (Ask of) = alone_after of.now.states.items of.now.files.items
alone_name (Convert of) = codes "hleak"

-- What the fault of a case names by a place: a segment; or, where a dialogue begins with so many saved states and with no file, or a
-- question is asked of them, a state; or one of both, with files behind the states. The first state fits.
abbrev pub part_among : ℕ → Bool → ℕ → NamedPart
part_among states is_of_states place =
    if nat_lt 0 place && nat_lt place states then (if is_of_states then parts.State place else parts.StateOrSegment place) else
    parts.Segment place

abbrev pub part_at : Task → ℕ → NamedPart
part_at (Question run) place = part_among (length run.now.states.items) (length run.now.files.items == 0) place
part_at (Ask of) place = part_among (length of.now.states.items) (length of.now.files.items == 0) place
part_at (Convert of) place = parts.Segment place
part_at (Reads of forgotten) place = parts.Segment place

-- what a person calls that
abbrev pub name_of : Task → NamedPart → List ℕ
name_of task (parts.State place) = state_name task place
name_of task part = alone_name task

abbrev pub name_at : Task → ℕ → List ℕ
name_at task place = name_of task (part_at task place)

-- the file with the symbols
abbrev pub symbols_name : Task → List ℕ
symbols_name (Question run) = option_map_or string_bytes run.now.symbols (codes "the table of symbols")
symbols_name (Ask of) = option_map_or string_bytes of.now.symbols (codes "the table of symbols")
symbols_name (Convert of) = codes "the table of symbols"
symbols_name (Reads of forgotten) = codes "the table of symbols"

-- what a question is about
abbrev pub asked_about : Task → Option Subject
asked_about (Question run) = asks_about run.now.job.question
asked_about (Convert of) = None
asked_about (Ask of) = None
asked_about (Reads of forgotten) = None

-- a question is asked as of a moment, or since a sequence
abbrev pub has_moment : Task → Bool
has_moment (Question run) = is_some run.now.job.until
has_moment task = false

abbrev pub has_since : Task → Bool
has_since (Question run) = is_some (since_of run.now.job.question)
has_since task = false

-- Events are forgotten once they are read: where there are saved states, where a dialogue folds, and where segments are folded, which of
-- all conversions alone looks for missing ones.
abbrev pub forgets_events : Task → Bool
forgets_events (Question run) = not (length run.now.states.items == 0)
forgets_events (Convert of) = true
forgets_events (Ask of) = forgets of.now
forgets_events (Reads of forgotten) = forgotten

-- the line of the event that a fault of a text is about
abbrev pub event_line_of : RunFault → Option ℕ
event_line_of (Text input line fault event) = event
event_line_of fault = None

-- what a fault is about; that there are no segments is about the first input
abbrev pub subject_of : Task → RunFault → List ℕ
subject_of task (Segment input offset fault) = input_name task input
subject_of task (Hex input fault) = input_name task input
subject_of task (Text input line fault event) = input_name task input
subject_of task (Read input) = input_name task input
subject_of task (UnknownCut input) = input_name task input
subject_of task (State state offset fault) = state_name task state
subject_of task (Unbounded state processor) = state_name task state
subject_of task (StateRead state) = state_name task state
subject_of task (Case Empty) = input_name task 0
subject_of task (Case (OtherTrace place)) = name_at task place
subject_of task (Case (OtherProcessors place)) = name_at task place
subject_of task (Case fault) = alone_name task
subject_of task (Symbols fault) = symbols_name task
subject_of task SymbolsRead = symbols_name task
subject_of task Write = codes "standard output"
subject_of task StateWrite = codes "the state"
subject_of task StateStacks = codes "the state"
subject_of task fault = codes "hleak"
