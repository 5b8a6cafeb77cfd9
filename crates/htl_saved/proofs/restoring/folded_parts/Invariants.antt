-- What was folded of the processors so far is there.
use Rattle.std.proofs.Common.{◌≡◌, map, take}
use Rattle.htl_analyst.specs.Restored.{fold_of}
use Rattle.htl_saved.specs.Restored.{fold_told}
use Rattle.htl_saved.proofs.restoring.folded_parts.Given as goal

abbrev pub invariant-loop-part : goal.invariant-loop-part
invariant-loop-part l = map fold_of l.folds.items ≡ map (fold_told l.table) (take l.part-index l.parts)
