-- The counts of the slots that are asked for are listed, as far as the counts were passed.
use Rattle.std.proofs.Common.{◌≡◌, ◌++◌, take}
use Rattle.htl_tree.specs.Nodes.{asked_of}
use Rattle.htl_tree.proofs.listing.push_counts.Given as goal

abbrev pub invariant-loop-slot : goal.invariant-loop-slot
invariant-loop-slot l = l.into.items ≡ l.fn.into.items ++ asked_of l.slots (take l.slot-index l.counts)
