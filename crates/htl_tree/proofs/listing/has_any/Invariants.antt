-- No count so far is of a slot that passes.
use Rattle.std.proofs.Common.{◌≡◌, ℕ, List, drop}
use Rattle.htl_tree.specs.HasSlot.{has_slot}
use Rattle.htl_tree.specs.Nodes.{rows_of_counts}
use Rattle.htl_tree.proofs.listing.has_any.Given as goal

abbrev pub invariant-loop-slot : goal.invariant-loop-slot
invariant-loop-slot l = (path : List ℕ)
    → rows_of_counts (has_slot l.slots) path (drop l.slot-index l.counts) ≡ rows_of_counts (has_slot l.slots) path l.counts
