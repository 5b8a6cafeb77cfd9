-- What `clap` is given of the table, and so what it finds in arguments and when it refuses them.
use Rattle.std.specs.Prelude.{Bool, true, false, List, [], ◌∷◌, Option, Some, codes, map}
use Rattle.clap.specs.Lexer.{usize_max}
use Rattle.clap.specs.Simple.{new_shape}
use Rattle.clap.specs.Words.{App, Kinds, Row, Rule, Text, fault_of, new_app, new_rule, subcommand_of, with_rule, with_subcommand}
use Rattle.clap.specs.declared.builder.ArgAction.TheVariants.{Append, SetTrue}
use Rattle.htl_command.specs.Commands.{QuestionRow, commands, name_of, question_row}
use Rattle.htl_command.specs.Options.{flag_name, is_required, option_name}
use Rattle.htl_command.specs.declared.names.CommandFlag.{CommandFlag}
use Rattle.htl_command.specs.declared.names.CommandFlag.TheVariants.{Complete, Fold, Hex, Json, Notes, Partial}
use Rattle.htl_command.specs.declared.table.CommandName.{CommandName}
use Rattle.htl_command.specs.declared.table.CommandName.TheVariants as command
use Rattle.htl_command.specs.declared.names.CommandOption.{CommandOption}
use Rattle.htl_command.specs.declared.names.CommandOption.TheVariants.{Top, Symbols, Workers, Until}

-- an option takes one value
abbrev pub option_rule : CommandOption → Rule
option_rule option = record (new_rule (option_name option)) {
  long = Some (option_name option);
  value_names = 1;
  required = is_required option;
}

-- one without a value is there or not
abbrev pub flag_rule : CommandFlag → Rule
flag_rule flag = record (new_rule (flag_name flag)) { long = Some (flag_name flag); action = Some SetTrue }

-- all other arguments are files
abbrev pub files_rule : Rule
files_rule = record (new_rule (codes "files")) {
  value_names = 1;
  range = Some (record { start_inclusive = 1; end_inclusive = usize_max });
}

-- a saved state, of which each is named by an option of its own
abbrev pub state_rule : Rule
state_rule = record (new_rule (codes "state")) { long = Some (codes "state"); value_names = 1; action = Some Append }

-- what every question has
abbrev pub common_rules : List Rule
common_rules =
    option_rule Until ∷ option_rule Symbols ∷ option_rule Workers ∷ state_rule ∷ flag_rule Json ∷ flag_rule Complete ∷ flag_rule Hex
    ∷ flag_rule Partial ∷ flag_rule Notes ∷ files_rule ∷ []

-- with these rules, in order
abbrev pub with_rules : App → List Rule → App
with_rules a [] = a
with_rules a (rule ∷ more) = with_rules (with_rule a rule) more

-- what the two commands on texts of segments have; one alone reads segments
abbrev pub dump_rules : List Rule
dump_rules = flag_rule Hex ∷ flag_rule Partial ∷ flag_rule Notes ∷ files_rule ∷ []

abbrev pub encode_rules : List Rule
encode_rules = flag_rule Hex ∷ flag_rule Notes ∷ files_rule ∷ []

-- what a dialogue has
abbrev pub dialogue_rules : List Rule
dialogue_rules =
    option_rule Symbols ∷ option_rule Workers ∷ state_rule ∷ flag_rule Fold ∷ flag_rule Complete ∷ flag_rule Hex ∷ flag_rule Partial
    ∷ flag_rule Notes ∷ files_rule ∷ []

-- what the command has that writes a state
abbrev pub fold_rules : List Rule
fold_rules =
    option_rule Workers ∷ flag_rule Complete ∷ flag_rule Hex ∷ flag_rule Partial ∷ flag_rule Notes ∷ files_rule ∷ []

-- a code is one argument
abbrev pub code_rule : Rule
code_rule = record (new_rule (codes "code")) { value_names = 1; required = true }

abbrev pub top_rules : Bool → List Rule
top_rules true = option_rule Top ∷ []
top_rules false = []

abbrev pub with_row : App → QuestionRow → App
with_row a row =
    with_rules (with_rules (with_rules (with_rules a (map option_rule row.options)) (top_rules row.has_top)) (map flag_rule row.flags))
    common_rules

abbrev pub rules_of : CommandName → App → App
rules_of (command.Question question) a = with_row a (question_row question)
rules_of command.Explain a = with_rules a (code_rule ∷ flag_rule Notes ∷ [])
rules_of command.Dump a = with_rules a dump_rules
rules_of command.Encode a = with_rules a encode_rules
rules_of command.Ask a = with_rules a dialogue_rules
rules_of command.Fold a = with_rules a fold_rules

abbrev pub command_app : CommandName → App
command_app command = rules_of command (new_app (name_of command))

-- with these commands, in order
abbrev pub with_commands : App → List CommandName → App
with_commands a [] = a
with_commands a (command ∷ more) = with_commands (with_subcommand a (command_app command).top) more

-- the program without its commands; one is wanted
abbrev pub program_app : App
program_app = record {
  top = record (new_shape (codes "hleak")) { no_binary_name = true; has_version = true; subcommand_required = true };
  subs = [];
}

unfoldable pub hleak_app : App
hleak_app = with_commands program_app commands

-- why `clap` refuses the arguments; where it takes them, nothing
unfoldable pub refusals : List Text → Kinds
refusals arguments = fault_of hleak_app arguments

-- the name of the command in the arguments, and its entries
unfoldable pub entries : List Text → Option (Text × List Row)
entries arguments = subcommand_of hleak_app arguments
