-- What only private functions say.
use Rattle.std.specs.Prelude.{◌≡◌, ◌≢◌, ◌==◌, ⊤, ℕ, Bool, true, false, List, [], ◌∷◌, ◌++◌, Option, Some, None, MatchOption, find}
use Rattle.std.specs.Prelude.{if◌then◌else◌, is_none, map, string_bytes, unwrap_or}
use Rattle.std.specs.Char.{to_ascii_lowercase}
use Rattle.std.specs.Str.{bytes_eq, trim_end}
use Rattle.clap.specs.Words.{App, Row, Text, app_of, found_of, rows_of}
use Rattle.clap.specs.declared.builder.Command.{Command}
use Rattle.clap.specs.declared.builder.Command.TheViews.{out-Command as fields_of}
use Rattle.clap.specs.declared.error.ErrorKind.{ErrorKind}
use Rattle.clap.specs.declared.error.ErrorKind.TheVariants.{OutOfMemory}
use Rattle.clap.specs.declared.parser.ArgMatches.{ArgMatches}
use Rattle.htl_command.specs.Codes.{all_codes, code_name}
use Rattle.htl_command.specs.Commands.{question_row}
use Rattle.htl_command.specs.Needs.{needs_events}
use Rattle.htl_command.specs.Options.{defaulted, given as given_in, is_given, optional, value}
use Rattle.htl_command.specs.Printed.{Follow, IsNameOf, form_of}
use Rattle.htl_command.specs.Refusals.{HasReason, IsUsageText, is_mistake, is_wish}
use Rattle.htl_command.specs.Requests.{beside_tag, has_inputs, has_states, job_of, setting_of, workers}
use Rattle.htl_command.specs.Values.{count_in, handle_in, moment_in, object_in, points_in, process_in, since_in, tag_in}
use Rattle.htl_command.specs.declared.code.Code.{Code}
use Rattle.htl_command.specs.declared.names.CommandFlag.TheVariants as flag
use Rattle.htl_command.specs.declared.names.CommandOption.{CommandOption}
use Rattle.htl_command.specs.declared.names.CommandOption.TheVariants.{Process, Since, AtLeast, Object, Tag, TagOfAll, Handle}
use Rattle.htl_command.specs.declared.names.CommandOption.TheVariants.{Points, Top, Symbols, Workers, Until}
use Rattle.htl_command.specs.declared.table.QuestionName.{QuestionName}
use Rattle.htl_command.specs.declared.printed.PrintedFault.{PrintedFault}
use Rattle.htl_command.specs.declared.no_job.NoJob.{NoJob}
use Rattle.htl_command.specs.declared.no_job.NoJob.TheVariants.{Value, Formats, BesideTag, NoInputs, NoEvents}
use Rattle.htl_command.specs.declared.no_job.InvalidValue.{InvalidValue}
use Rattle.htl_command.specs.declared.fault.ParseFault.{ParseFault}
use Rattle.htl_command.specs.declared.fault.ParseFault.TheVariants.{Help, Usage, Memory}

-- `clap` is given this, and no rule is global
pub record Describes (a : App) (command : Command) : Type 0 where
  pub app : app_of command ≡ a
  pub local : (fields_of command).has_globals ≡ false

-- the name of a code, in either case
abbrev pub is_called : List ℕ → Code → Bool
is_called name code = bytes_eq (map to_ascii_lowercase (code_name code)) (map to_ascii_lowercase name)

-- the code of a name, with or without blanks behind it
unfoldable pub code_named : List ℕ → Option Code
code_named name = find (is_called (trim_end name)) all_codes

-- P holds of what was found, and of nothing at all where nothing was
abbrev pub Finds : {X : Type 0} → (X → Type 0) → Option X → Type 0
Finds {X} P found = MatchOption found ((x : X) → P x → ⊥) P

-- a text without a blank at its start
abbrev pub after_blank : List ℕ → List ℕ
after_blank [] = []
after_blank (byte ∷ rest) = if byte == 32 then rest else byte ∷ rest

-- a name and what follows it are a printed fault
pub record AreFault (name tail : List ℕ) (fault : PrintedFault) : Type 0 where
  pub code : IsNameOf fault.code name
  pub parts : Follow (form_of fault.code) fault.parts tail

-- the refusal of a value names its option and the text that was given for it
pub record Names (wanted : CommandOption) (rows : List Row) (refused : InvalidValue) : Type 0 where
  pub option : refused.option ≡ wanted
  pub given : refused.given.now ≡ unwrap_or (given_in wanted rows) []

-- the value of an option breaks its rule, or is missing where there has to be one
abbrev pub breaks_rule : List Row → CommandOption → Bool
breaks_rule rows Process = is_none (value process_in Process rows)
breaks_rule rows Since = is_none (optional since_in Since rows)
breaks_rule rows AtLeast = is_none (defaulted count_in AtLeast 1 rows)
breaks_rule rows Object = is_none (value object_in Object rows)
breaks_rule rows Tag = is_none (value tag_in Tag rows)
breaks_rule rows TagOfAll = is_none (optional tag_in TagOfAll rows)
breaks_rule rows Handle = is_none (value handle_in Handle rows)
breaks_rule rows Points = is_none (defaulted points_in Points 20 rows)
breaks_rule rows Top = is_none (optional count_in Top rows)
breaks_rule rows Workers = is_none (workers rows)
breaks_rule rows Until = is_none (optional moment_in Until rows)
breaks_rule rows Symbols = false

-- of these options this is the first whose value breaks its rule
abbrev pub IsFirstBroken : List Row → List CommandOption → InvalidValue → Type 0
IsFirstBroken rows options refused = Names refused.option rows refused × (find (breaks_rule rows) options ≡ Some refused.option)

-- two forms of an answer are asked for
abbrev pub IsTwoForms : List Row → NoJob → Type 0
IsTwoForms rows Formats = (is_given flag.Json rows ≡ true) × (is_given flag.Folded rows ≡ true)
IsTwoForms rows why = ⊥

-- the options whose values make a job, in the order in which they are read
abbrev pub job_options : QuestionName → List CommandOption
job_options name = (question_row name).options ++ Workers ∷ Until ∷ Top ∷ []

-- the entries are no job: a value is the first that breaks its rule, or none does and two forms of an answer are asked for, or what can't
-- be beside a tag; or they are a job, but there is a state, and this job needs events
abbrev pub IsNoJob : QuestionName → List Row → NoJob → Type 0
IsNoJob name rows (Value refused) = IsFirstBroken rows (job_options name) refused
IsNoJob name rows Formats =
    IsTwoForms rows Formats × (find (breaks_rule rows) (job_options name) ≡ None)
IsNoJob name rows (BesideTag flag) =
    (beside_tag rows ≡ Some flag) × (find (breaks_rule rows) (job_options name) ≡ None)
IsNoJob name rows NoInputs = ⊥
IsNoJob name rows (NoEvents job) = (job_of name rows ≡ Some job) × ((has_states rows ≡ true) × (needs_events job ≡ true))

-- the entries are no dialogue: the only value breaks its rule, or it doesn't and there is nothing to begin with
abbrev pub IsNoDialogue : List Row → NoJob → Type 0
IsNoDialogue rows (Value refused) = Names Workers rows refused × (setting_of rows ≡ None)
IsNoDialogue rows NoInputs = (is_none (setting_of rows) ≡ false) × (has_inputs rows ≡ false)
IsNoDialogue rows why = ⊥

-- the entries that `clap` found
abbrev pub entries_of : ArgMatches → List Row
entries_of matches = rows_of (found_of matches)

-- what a fault makes of an error of `clap`'s
abbrev pub Reports : ErrorKind → ParseFault → Type 0
Reports kind (Help text) = is_wish kind ≡ true
Reports kind (Usage text) = (is_mistake kind ≡ true) × ((kind ≢ OutOfMemory) × IsUsageText (string_bytes text))
Reports kind Memory = ⊤

-- `clap` refuses the arguments
abbrev pub IsRefused : List Text → ParseFault → Type 0
IsRefused arguments (Help text) = HasReason is_wish arguments
IsRefused arguments (Usage text) = HasReason is_mistake arguments × IsUsageText (string_bytes text)
IsRefused arguments Memory = ⊤
