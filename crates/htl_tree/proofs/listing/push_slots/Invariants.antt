-- The slots so far are listed.
use Rattle.std.proofs.Common.{◌≡◌, ◌++◌, map, take}
use Rattle.htl_event.specs.declared.slot.Slot.{Slot}
use Rattle.htl_event.specs.declared.slot.Count.{Count}
use Rattle.htl_tree.proofs.listing.push_slots.Given as goal

abbrev pub invariant-loop-slot : goal.invariant-loop-slot
invariant-loop-slot l = l.into.items ≡ l.initial.into.items ++ map (λ (entry : Slot × Count). entry.0) (take l.slot-index l.counts)
