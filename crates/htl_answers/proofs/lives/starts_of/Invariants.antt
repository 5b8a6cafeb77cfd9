-- The starts so far are those of the changes that were passed.
use Rattle.std.proofs.Common.{◌≡◌, take}
use Rattle.std.specs.List.{filter_map}
use Rattle.htl_answers.specs.Lives.{start_of}
use Rattle.htl_answers.proofs.lives.starts_of.Given as goal

abbrev pub invariant-loop-change : goal.invariant-loop-change
invariant-loop-change l = l.starts.items ≡ filter_map start_of (take l.change-index l.changes)
