-- What a line says (this project's own): a question, or that files are read or a process is used, that a state is merged or saved, that the
-- dialogue ends, or nothing; or it is wrong.
use Rattle.std.specs.Prelude.{ℕ, ◌&&◌, ◌||◌, ◌==◌, ◌++◌, Bool, true, false, not, List, [], ◌∷◌, Option, None, Some, codes, if◌then◌else◌}
use Rattle.std.specs.Prelude.{length, map, nat_eq, nat_le, string_bytes, take}
use Rattle.std.specs.Fmt.{decimal}
use Rattle.std.specs.List.{insert, list_all, list_any, position, remove, starts_with}
use Rattle.std.specs.Option.{option_map_or}
use Rattle.std.specs.Str.{bytes_eq, is_utf8}
use Rattle.htl_command.specs.Needs.{needs_events}
use Rattle.htl_command.specs.Processes.{takes_process}
use Rattle.htl_command.specs.Requests.{asked_in}
use Rattle.htl_command.specs.Values.{process_in}
use Rattle.htl_command.specs.declared.question.Job.{Job}
use Rattle.htl_dialogue.specs.Lines.{arguments_of, ends_quoted}
use Rattle.htl_dialogue.specs.declared.line.TheConstants.{MAX_LINE_LEN}
use Rattle.htl_dialogue.specs.declared.saying.Said.{Said}
use Rattle.htl_dialogue.specs.declared.saying.Said.TheVariants as said
use Rattle.htl_dialogue.specs.declared.sorting.Sort.{Sort}
use Rattle.htl_dialogue.specs.declared.sorting.Sort.TheVariants as sort

pub data Saying : Type 0 where
  nothing : Saying
  quits : Saying
  asks : Job → Saying
  reads : List (List ℕ) → Saying
  uses : Option ℕ → Saying
  merges : List ℕ → Saying
  saves : List ℕ → Saying
  wrong : Saying

-- `quit`, or a word that debuggers and shells have for it
abbrev pub is_farewell : List ℕ → Bool
is_farewell word = bytes_eq word (codes "quit") || (bytes_eq word (codes "exit") || bytes_eq word (codes "q"))

-- `quit`, or another word for it, alone
abbrev pub is_quit : List (List ℕ) → Bool
is_quit (word ∷ []) = is_farewell word
is_quit arguments = false

-- `?` alone is `help`
abbrev pub is_help_sign : List (List ℕ) → Bool
is_help_sign (word ∷ []) = bytes_eq word (codes "?")
is_help_sign arguments = false

abbrev pub meant : List (List ℕ) → List (List ℕ)
meant arguments = if is_help_sign arguments then codes "help" ∷ [] else arguments

-- the first word is `read`
abbrev pub is_read : List (List ℕ) → Bool
is_read [] = false
is_read (first ∷ more) = bytes_eq first (codes "read")

-- the first word is `use`
abbrev pub is_use : List (List ℕ) → Bool
is_use [] = false
is_use (first ∷ more) = bytes_eq first (codes "use")

-- the first word is `merge`
abbrev pub is_merge : List (List ℕ) → Bool
is_merge [] = false
is_merge (first ∷ more) = bytes_eq first (codes "merge")

-- the first word is `save`
abbrev pub is_save : List (List ℕ) → Bool
is_save [] = false
is_save (first ∷ more) = bytes_eq first (codes "save")

-- a word of a dialogue that is no question
abbrev pub is_word : List ℕ → Bool
is_word word =
    bytes_eq word (codes "read") || (bytes_eq word (codes "use") || (bytes_eq word (codes "merge")
    || (bytes_eq word (codes "save") || is_farewell word)))

abbrev pub is_help_option : List ℕ → Bool
is_help_option word = bytes_eq word (codes "--help") || bytes_eq word (codes "-h")

-- help of such a word is asked for, by `help` before it or by an option behind it
abbrev pub asks_help : List (List ℕ) → Bool
asks_help (first ∷ (second ∷ [])) = (bytes_eq first (codes "help") && is_word second) || (is_word first && is_help_option second)
asks_help arguments = false

-- what arguments are for, by their words
abbrev pub sort_of : List (List ℕ) → Sort
sort_of [] = sort.Nothing
sort_of (first ∷ more) =
    if is_quit (first ∷ more) then sort.Farewell
    else (if asks_help (first ∷ more) then sort.Help
    else (if is_read (first ∷ more) then sort.Files
    else (if is_use (first ∷ more) then sort.Process
    else (if is_merge (first ∷ more) then sort.Merge else (if is_save (first ∷ more) then sort.Save else sort.Question)))))

-- the argument begins as an option does: `-` alone is the name of a file
abbrev pub is_option : List ℕ → Bool
is_option [] = false
is_option (b ∷ []) = false
is_option (b ∷ (c ∷ more)) = b == 45

-- `--`, after which there are only files
abbrev pub ends_options : List ℕ → Bool
ends_options argument = bytes_eq argument (codes "--")

-- the arguments that may be options: those before the first `--`
unfoldable pub before_files : List (List ℕ) → List (List ℕ)
before_files arguments = option_map_or (λ place. take place arguments) (position ends_options arguments) arguments

-- the names of files: all arguments but the first `--`
unfoldable pub names_among : List (List ℕ) → List (List ℕ)
names_among arguments = option_map_or (λ place. remove arguments place) (position ends_options arguments) arguments

-- files of these names are read, if there is one
abbrev pub reads_some : List (List ℕ) → Saying
reads_some [] = wrong
reads_some (file ∷ more) = reads (file ∷ more)

-- what a line says that reads: after the word stand the names of files, at least one, and no option before a `--`
abbrev pub reading : List (List ℕ) → Saying
reading [] = wrong
reading (word ∷ more) = if list_any is_option (before_files more) then wrong else reads_some (names_among more)

-- the name, where it is the only one
abbrev pub only : List (List ℕ) → Option (List ℕ)
only (name ∷ []) = Some name
only names = None

-- the only name of a file after the word, where no option stands before a `--`
abbrev pub only_name : List (List ℕ) → Option (List ℕ)
only_name [] = None
only_name (word ∷ more) = if list_any is_option (before_files more) then None else only (names_among more)

-- what a line says by the only name after its word, if there is such a one
abbrev pub naming : (List ℕ → Saying) → List (List ℕ) → Saying
naming says arguments = option_map_or says (only_name arguments) wrong

-- what is said by the name of a process, or by `none`
abbrev pub using_named : List ℕ → Saying
using_named name =
    if bytes_eq name (codes "none") then uses None else option_map_or (λ process. uses (Some process)) (process_in name) wrong

-- what a line says that uses a process, where this one was used before it: the word alone stays with that
abbrev pub using : Option ℕ → List (List ℕ) → Saying
using before (word ∷ []) = uses before
using before (word ∷ (name ∷ [])) = using_named name
using before arguments = wrong

-- the argument names a process: the option, whose value follows, or the option with its value
abbrev pub names_process : List ℕ → Bool
names_process argument = bytes_eq argument (codes "--process") || starts_with nat_eq argument (codes "--process=")

-- the arguments ask about a process, and name none
abbrev pub lacks_process : List (List ℕ) → Bool
lacks_process [] = false
lacks_process (word ∷ more) = takes_process word && not (list_any names_process more)

abbrev pub process_option : ℕ → List ℕ
process_option process = codes "--process=" ++ decimal process

-- The arguments with what they mean where this process is used: it stands behind the word of a question about a process that names none.
unfoldable pub with_process : Option ℕ → List (List ℕ) → List (List ℕ)
with_process None arguments = arguments
with_process (Some process) arguments = if lacks_process arguments then insert arguments 1 (process_option process) else arguments

-- what a question says
abbrev pub asking : List (List ℕ) → Saying
asking arguments = option_map_or (λ job. asks job) (asked_in (meant arguments)) wrong

-- what arguments of a sort say, where this process is used: those that ask for help of a word ask no question
abbrev pub saying_as : Sort → Option ℕ → List (List ℕ) → Saying
saying_as sort.Nothing process arguments = nothing
saying_as sort.Farewell process arguments = quits
saying_as sort.Help process arguments = wrong
saying_as sort.Files process arguments = reading arguments
saying_as sort.Process process arguments = using process arguments
saying_as sort.Merge process arguments = naming merges arguments
saying_as sort.Save process arguments = naming saves arguments
saying_as sort.Question process arguments = asking (with_process process arguments)

abbrev pub saying_by : Option ℕ → List (List ℕ) → Saying
saying_by process arguments = saying_as (sort_of arguments) process arguments

-- A line where it stands in a dialogue: which process is used there, if one is.
pub record Turn : Type 0 where
  pub process : Option ℕ
  pub line : List ℕ

abbrev pub turn : Option ℕ → List ℕ → Turn
turn process line = record { process = process; line = line }

abbrev pub lines_in : List Turn → List (List ℕ)
lines_in turns = map (λ t. t.line) turns

-- a line can be read: it isn't too long, each quote is ended, and each argument is a text
abbrev pub is_readable : List ℕ → Bool
is_readable line = nat_le (length line) MAX_LINE_LEN && (not (ends_quoted false line) && list_all is_utf8 (arguments_of line))

-- What a line says where it stands.
unfoldable pub saying_of : Turn → Saying
saying_of turn = if is_readable turn.line then saying_by turn.process (arguments_of turn.line) else wrong

-- the process that is used after what was said
abbrev pub used : Option ℕ → Saying → Option ℕ
used before (uses process) = process
used before other = before

-- Lines one after the other, each with the process that is used there: what the last line before it says that uses one.
abbrev pub turns_of : Option ℕ → List (List ℕ) → List Turn
turns_of process [] = []
turns_of process (line ∷ more) = turn process line ∷ turns_of (used process (saying_of (turn process line))) more

-- What is said is refused in a dialogue that forgets events (`true`), or that keeps them: where they are forgotten a question that needs
-- them, and where they are kept a state that is to be merged or saved.
abbrev pub is_refused_in : Bool → Saying → Bool
is_refused_in true (asks job) = needs_events job
is_refused_in true other = false
is_refused_in false (merges name) = true
is_refused_in false (saves name) = true
is_refused_in false other = false

-- what is said in a dialogue that forgets events, or keeps them: what is refused there is wrong
abbrev pub heard : Bool → Saying → Saying
heard forgets said = if is_refused_in forgets said then wrong else said

-- What a line says in a dialogue that forgets events, or keeps them.
abbrev pub saying_in : Bool → Turn → Saying
saying_in forgets turn = heard forgets (saying_of turn)

-- what a line says, of the program's own type
abbrev pub saying : Said → Saying
saying said.Nothing = nothing
saying said.Quits = quits
saying (said.Asks job) = asks job
saying (said.Reads files) = reads (map string_bytes files.items)
saying (said.Uses process) = uses process
saying (said.Merges name) = merges (string_bytes name)
saying (said.Saves name) = saves (string_bytes name)
saying (said.Wrong fault) = wrong
