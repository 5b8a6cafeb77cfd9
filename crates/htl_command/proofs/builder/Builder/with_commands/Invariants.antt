-- With the commands that are left, the program is the one that is wanted.
use Rattle.std.proofs.Common.{◌≡◌, false, drop}
use Rattle.clap.specs.Words.{app_of}
use Rattle.clap.specs.declared.builder.Command.TheViews.{out-Command as fields_of}
use Rattle.htl_command.specs.Entries.{with_commands}
use Rattle.htl_command.proofs.builder.Builder.with_commands.Given as goal

abbrev pub invariant-loop-name : goal.invariant-loop-name
invariant-loop-name l = record {
  app : with_commands (app_of l.program) (drop l.name-index l.names) ≡ with_commands (app_of l.initial.program) l.names;
  local : (fields_of l.program).has_globals ≡ false;
}
