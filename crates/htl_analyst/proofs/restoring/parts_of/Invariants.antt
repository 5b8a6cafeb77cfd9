-- The parts so far have folded what the folds so far have.
use Rattle.std.proofs.Common.{◌≡◌, map}
use Rattle.htl_analyst.specs.Restored.{part_of}
use Rattle.htl_analyst.proofs.restoring.parts_of.Given as goal

abbrev pub invariant-loop-fold : goal.invariant-loop-fold
invariant-loop-fold g l = l.parts.items ≡ map part_of l.yielded
