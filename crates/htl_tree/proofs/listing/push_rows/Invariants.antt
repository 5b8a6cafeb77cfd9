-- The rows listed so far and those of the counts that are left are all that ought to be listed.
use Rattle.std.proofs.Common.{◌≡◌, ◌++◌, drop}
use Rattle.htl_tree.specs.HasSlot.{has_slot}
use Rattle.htl_tree.specs.Nodes.{rows_of_counts}
use Rattle.htl_tree.proofs.listing.push_rows.Given as goal

abbrev pub invariant-loop-slot : goal.invariant-loop-slot
invariant-loop-slot l = l.into.items ++ rows_of_counts (has_slot l.slots) l.path (drop l.slot-index l.counts)
    ≡ l.fn.into.items ++ rows_of_counts (has_slot l.slots) l.path l.counts
