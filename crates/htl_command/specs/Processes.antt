-- Which questions are about a process, and so have the option that names it (this project's own).
use Rattle.std.specs.Prelude.{ℕ, Bool, true, false, List}
use Rattle.std.specs.List.{list_any}
use Rattle.std.specs.Option.{option_map_or}
use Rattle.htl_command.specs.Commands.{command_named, question_row}
use Rattle.htl_command.specs.declared.names.CommandOption.{CommandOption}
use Rattle.htl_command.specs.declared.names.CommandOption.TheVariants.{Process}
use Rattle.htl_command.specs.declared.table.CommandName.{CommandName}
use Rattle.htl_command.specs.declared.table.CommandName.TheVariants.{Question}

abbrev pub is_process : CommandOption → Bool
is_process Process = true
is_process other = false

abbrev pub is_about_process : CommandName → Bool
is_about_process (Question question) = list_any is_process (question_row question).options
is_about_process other = false

-- the command of a name takes a process
unfoldable pub takes_process : List ℕ → Bool
takes_process name = option_map_or is_about_process (command_named name) false
