-- The rows of the tree so far stand there without their slot.
use Rattle.std.proofs.Common.{◌≡◌, ℕ, List, map, take}
use Rattle.htl_event.specs.declared.slot.Slot.{Slot}
use Rattle.htl_event.specs.declared.slot.Count.{Count}
use Rattle.htl_tree.proofs.listing.without_slot.Given as goal

abbrev pub invariant-loop-stack : goal.invariant-loop-stack
invariant-loop-stack l = l.stacks.items ≡ map (λ (row : (Slot × List ℕ) × Count). (row.0.1, row.1)) (take l.stack-index l.rows)
