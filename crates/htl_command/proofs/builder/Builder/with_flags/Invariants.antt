-- With the flags that are left, the command is the one that is wanted.
use Rattle.std.proofs.Common.{◌≡◌, false, map, drop}
use Rattle.clap.specs.Words.{app_of}
use Rattle.clap.specs.declared.builder.Command.TheViews.{out-Command as fields_of}
use Rattle.htl_command.specs.Entries.{flag_rule, with_rules}
use Rattle.htl_command.proofs.builder.Builder.with_flags.Given as goal

abbrev pub invariant-loop-own : goal.invariant-loop-own
invariant-loop-own l = record {
  app : with_rules (app_of l.command) (map flag_rule (drop l.own-index l.flags))
      ≡ with_rules (app_of l.initial.command) (map flag_rule l.flags);
  local : (fields_of l.command).has_globals ≡ false;
}
