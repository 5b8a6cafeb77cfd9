-- What arguments ask for: of the entries that `clap` finds in them, each value is read by its rule.
use Rattle.std.specs.Prelude.{◌≡◌, ⊤, ℕ, ◌==◌, ◌||◌, ◌&&◌, Bool, true, false, List, [], ◌∷◌, Option, Some, None, codes, if◌then◌else◌}
use Rattle.std.specs.Prelude.{is_some, length, map, not, option_and_then, option_map, string_bytes, unwrap_or}
use Rattle.std.specs.Option.{option_map_or}
use Rattle.clap.specs.Words.{Kinds, Row, Text, all_of, first_of}
use Rattle.htl_command.specs.Commands.{command_named, question_row}
use Rattle.htl_command.specs.Entries.{entries, refusals}
use Rattle.htl_command.specs.Needs.{needs_events}
use Rattle.htl_command.specs.Options.{both, defaulted, given, is_given, optional}
use Rattle.htl_command.specs.Printed.{IsPrinted}
use Rattle.htl_command.specs.Values.{count_in, moment_in, workers_in}
use Rattle.htl_command.specs.declared.command.Run.{Run}
use Rattle.htl_command.specs.declared.command.Command.{Command}
use Rattle.htl_command.specs.declared.command.Command.TheVariants as wish
use Rattle.htl_command.specs.declared.names.CommandFlag.{CommandFlag}
use Rattle.htl_command.specs.declared.names.CommandFlag.TheVariants as flag
use Rattle.htl_command.specs.declared.table.CommandName.{CommandName}
use Rattle.htl_command.specs.declared.table.CommandName.TheVariants as command
use Rattle.htl_command.specs.declared.table.QuestionName.{QuestionName}
use Rattle.htl_command.specs.declared.names.CommandOption.TheVariants.{TagOfAll, Top, Symbols, Workers, Until}
use Rattle.htl_command.specs.declared.printed.PrintedFault.{PrintedFault}
use Rattle.htl_command.specs.declared.question.Format.{Format}
use Rattle.htl_command.specs.declared.question.Format.TheVariants.{Plain, Json, Folded}
use Rattle.htl_command.specs.declared.question.InputForm.{InputForm}
use Rattle.htl_command.specs.declared.question.Job.{Job}
use Rattle.htl_command.specs.declared.question.Setting.{Setting}
use Rattle.htl_question.specs.declared.question.Question.TheVariants.{Outstanding}

abbrev pub workers : List Row → Option ℕ
workers rows = defaulted workers_in Workers 1 rows

-- the form of the answer, of which one alone can be asked for
abbrev pub format_of : List Row → Option Format
format_of rows =
    if is_given flag.Json rows then (if is_given flag.Folded rows then None else Some Json)
    else (if is_given flag.Folded rows then Some Folded else Some Plain)

-- how the inputs hold segments
abbrev pub input_form : List Row → InputForm
input_form rows = record { hex = is_given flag.Hex rows; partial = is_given flag.Partial rows }

-- how the segments are read
abbrev pub setting_of : List Row → Option Setting
setting_of rows =
    option_map (λ n. record { form = input_form rows; workers = n; complete = is_given flag.Complete rows }) (workers rows)

-- beside a tag of all objects neither of two flags can be given: the first of them that is
abbrev pub beside_tag : List Row → Option CommandFlag
beside_tag rows =
    if is_some (given TagOfAll rows) then (if is_given flag.All rows then Some flag.All
    else (if is_given flag.ExitCode rows then Some flag.ExitCode else None)) else None

-- the job by the values and flags, each by itself
unfoldable pub job_by_values : QuestionName → List Row → Option Job
job_by_values name rows =
    option_and_then (λ question. option_and_then (λ format. option_and_then (λ u. both (λ s t. record {
      question = question;
      setting = s;
      until = u;
      top = t;
      exit_code = is_given flag.ExitCode rows;
      format = format;
    }) (setting_of rows) (optional count_in Top rows)) (optional moment_in Until rows)) (format_of rows)) ((question_row name).asked rows)

unfoldable pub job_of : QuestionName → List Row → Option Job
job_of name rows = option_and_then (λ job. if is_some (beside_tag rows) then None else Some job) (job_by_values name rows)

-- a job, with the names of its states and its files
pub record Work : Type 0 where
  pub job : Job
  pub states : List Text
  pub files : List Text
  pub symbols : Option Text

-- What is asked for: what is to be explained is a text, and a dialogue folds what was read or doesn't, and has the names of its states
-- before those of its files.
pub data Request : Type 0 where
  answers : Work → Request
  explains : Text → Request
  dumps : InputForm → List Text → Request
  encodes : Bool → List Text → Request
  asks : Setting → Bool → List Text → List Text → Option Text → Request
  folds : Setting → List Text → Request

abbrev pub file_names : List Row → List Text
file_names rows = unwrap_or (all_of (codes "files") rows) []

abbrev pub state_names : List Row → List Text
state_names rows = unwrap_or (all_of (codes "state") rows) []

abbrev pub has_files : List Row → Bool
has_files rows = not (length (file_names rows) == 0)

abbrev pub has_states : List Row → Bool
has_states rows = not (length (state_names rows) == 0)

abbrev pub with_inputs : List Row → Job → Work
with_inputs rows job = record { job = job; states = state_names rows; files = file_names rows; symbols = given Symbols rows }

-- the job of a run: a state has no events, so what needs them isn't asked of one
unfoldable pub job_of_run : QuestionName → List Row → Option Job
job_of_run name rows = option_and_then (λ job. if has_states rows && needs_events job then None else Some job) (job_of name rows)

-- questions of a dialogue come from standard input, so it has files or states to begin with
abbrev pub has_inputs : List Row → Bool
has_inputs rows = has_files rows || has_states rows

abbrev pub dialogue_setting : List Row → Option Setting
dialogue_setting rows = if has_inputs rows then setting_of rows else None

-- one that begins with a state folds
abbrev pub is_folded : List Row → Bool
is_folded rows = is_given flag.Fold rows || has_states rows

-- what a command asks for
abbrev pub request_of : CommandName → List Row → Option Request
request_of (command.Question name) rows = option_map (λ job. answers (with_inputs rows job)) (job_of_run name rows)
request_of command.Explain rows = option_map (λ text. explains text) (first_of (codes "code") rows)
request_of command.Dump rows = Some (dumps (input_form rows) (file_names rows))
request_of command.Encode rows = Some (encodes (is_given flag.Hex rows) (file_names rows))
request_of command.Ask rows =
    option_map (λ setting. asks setting (is_folded rows) (state_names rows) (file_names rows) (given Symbols rows)) (dialogue_setting rows)
request_of command.Fold rows = option_map (λ setting. folds setting (file_names rows)) (setting_of rows)

-- what a command's name and its entries ask for
abbrev pub request_met : Option (Text × List Row) → Option Request
request_met met = option_and_then (λ p. option_and_then (λ command. request_of command p.1) (command_named p.0)) met

-- what no arguments ask for
abbrev pub stored : Work
stored = record {
  job = record {
    question = Outstanding 4;
    setting = record { form = record { hex = true; partial = false }; workers = 1; complete = false };
    until = None;
    top = None;
    exit_code = false;
    format = Plain;
  };
  states = [];
  files = [];
  symbols = None;
}

abbrev pub is_nothing : Kinds → Bool
is_nothing [] = true
is_nothing (kind ∷ more) = false

-- what arguments ask for, where `clap` refuses nothing
unfoldable pub requested : List Text → Option Request
requested [] = Some (answers stored)
requested (argument ∷ more) = if is_nothing (refusals (argument ∷ more)) then request_met (entries (argument ∷ more)) else None

-- whether notes are asked for wherever standard error goes
abbrev pub notes_met : Option (Text × List Row) → Bool
notes_met met = option_map_or (λ p. is_given flag.Notes p.1) met false

unfoldable pub notes_in : List Text → Bool
notes_in [] = false
notes_in (argument ∷ more) = notes_met (entries (argument ∷ more))

-- an option, a file or a state that a run alone has, and no question of a dialogue
abbrev pub is_of_run : List Row → Bool
is_of_run rows =
    is_given flag.Hex rows || (is_given flag.Partial rows || (is_given flag.Complete rows || (is_given flag.ExitCode rows
    || (is_given flag.Notes rows || (is_some (given Symbols rows) || (is_some (given Workers rows)
    || has_inputs rows))))))

-- the job of a question with these entries
abbrev pub asked_by : CommandName → List Row → Option Job
asked_by (command.Question name) rows = if is_of_run rows then None else job_of name rows
asked_by other rows = None

abbrev pub asked_met : Option (Text × List Row) → Option Job
asked_met met = option_and_then (λ p. option_and_then (λ command. asked_by command p.1) (command_named p.0)) met

-- what arguments ask for in a dialogue, where `clap` refuses nothing
unfoldable pub asked_in : List Text → Option Job
asked_in arguments = if is_nothing (refusals arguments) then asked_met (entries arguments) else None

-- the same of the program's own types
abbrev pub work : Run → Work
work run = record {
  job = run.job;
  states = map string_bytes run.states.items;
  files = map string_bytes run.files.items;
  symbols = option_map string_bytes run.symbols;
}

-- a command is what was asked for: of a text that is to be explained, the fault that is printed so
abbrev pub Meets : Request → Command → Type 0
Meets (explains text) (wish.Explain fault) = IsPrinted text fault
Meets asked (wish.Explain fault) = ⊥
Meets asked (wish.Question run) = asked ≡ answers (work run)
Meets asked (wish.Dump form files) = asked ≡ dumps form (map string_bytes files.items)
Meets asked (wish.Encode hex files) = asked ≡ encodes hex (map string_bytes files.items)
Meets asked (wish.Ask of) =
    asked ≡ asks of.setting of.folds (map string_bytes of.states.items) (map string_bytes of.files.items)
    (option_map string_bytes of.symbols)
Meets asked (wish.Fold setting files) = asked ≡ folds setting (map string_bytes files.items)

abbrev pub IsAskedFor : Option Request → Command → Type 0
IsAskedFor None command = ⊥
IsAskedFor (Some asked) command = Meets asked command

-- nothing is asked for, or the explanation of a text that is no printed fault
abbrev pub AsksNothing : Option Request → Type 0
AsksNothing None = ⊤
AsksNothing (Some (explains text)) = (fault : PrintedFault) → IsPrinted text fault → ⊥
AsksNothing (Some asked) = ⊥
