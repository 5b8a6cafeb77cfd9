-- The counts so far are added up.
use Rattle.std.proofs.Common.{take}
use Rattle.htl_tree.specs.Nodes.{AreAddedUp}
use Rattle.htl_tree.proofs.slot_sums.add_up.Given as goal

abbrev pub invariant-loop-slot : goal.invariant-loop-slot
invariant-loop-slot g l = AreAddedUp (take l.slot-index l.counts) l.sums.items
