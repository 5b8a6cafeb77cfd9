-- The fronts so far are those of the parts so far.
use Rattle.std.proofs.Common.{◌≡◌, map, take}
use Rattle.htl_analyst.specs.Restored.{front_of}
use Rattle.htl_analyst.proofs.restoring.fronts_of.Given as goal

abbrev pub invariant-loop-part : goal.invariant-loop-part
invariant-loop-part g l = l.fronts.items ≡ map front_of (take l.part-index l.parts)
