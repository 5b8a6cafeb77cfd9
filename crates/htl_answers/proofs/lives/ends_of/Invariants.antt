-- The ends so far and those of the changes that are left are the ends of all changes.
use Rattle.std.proofs.Common.{◌≡◌, ◌++◌, drop}
use Rattle.htl_answers.specs.Lives.{ends_of}
use Rattle.htl_answers.proofs.lives.ends_of.Given as goal

abbrev pub invariant-loop-index : goal.invariant-loop-index
invariant-loop-index l = l.ends.items ++ ends_of l.exits (drop l.index l.changes) ≡ ends_of l.exits l.changes
