-- Which slots are asked for.
use Rattle.std.specs.Prelude.{◌==◌, Bool, true, false}
use Rattle.htl_event.specs.Slots.{same_slot}
use Rattle.htl_event.specs.declared.slot.Slot.{Slot}
use Rattle.htl_event.specs.declared.slot.Slot.TheVariants.{Tagged, Bad}
use Rattle.htl_tree.specs.declared.slots.Slots.{Slots}
use Rattle.htl_tree.specs.declared.slots.Slots.TheVariants.{All, One, OfObject, BadOf}

-- all slots, one, those of an object under whatever tag, or the bad references of a process to whatever handle
abbrev pub has_slot : Slots → Slot → Bool
has_slot All slot = true
has_slot (One one) slot = same_slot one slot
has_slot (OfObject object) (Tagged its tag) = its == object
has_slot (BadOf process) (Bad its handle) = its == process
has_slot slots slot = false
