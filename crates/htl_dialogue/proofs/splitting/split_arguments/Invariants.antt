-- The arguments so far, which are texts, and those of what is left are the line's.
use Rattle.std.proofs.Common.{◌≡◌, ◌++◌, true, length, map, string_bytes}
use Rattle.std.specs.List.{list_all}
use Rattle.std.specs.Str.{is_utf8}
use Rattle.htl_dialogue.specs.Lines.{arguments_of}
use Rattle.htl_dialogue.proofs.splitting.split_arguments.Given as goal

abbrev pub invariant-loop-rest : goal.invariant-loop-rest
invariant-loop-rest l = record {
  split : arguments_of l.line ≡ map string_bytes l.arguments.items ++ arguments_of l.rest;
  texts : list_all is_utf8 (map string_bytes l.arguments.items) ≡ true;
}

abbrev pub decreases-loop-rest : goal.decreases-loop-rest
decreases-loop-rest l = length l.rest
