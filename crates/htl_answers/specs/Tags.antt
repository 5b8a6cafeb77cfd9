-- Rows of an object's tags, from the sums of slots.
use Rattle.std.specs.Prelude.{ℕ, ◌==◌, List, Option, Some, None, if◌then◌else◌}
use Rattle.htl_event.specs.declared.slot.Slot.{Slot}
use Rattle.htl_event.specs.declared.slot.Slot.TheVariants.{Tagged}
use Rattle.htl_event.specs.declared.slot.Count.{Count}

-- the row of a slot that came so often, if that is one of the object
abbrev pub tag_row : ℕ → Slot → Count → Option (List ℕ × Count)
tag_row object (Tagged its tag) count = if its == object then Some (tag, count) else None
tag_row object other count = None
