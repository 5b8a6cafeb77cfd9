-- Rows of a process's bad references, from the rows of slots.
use Rattle.std.specs.Prelude.{ℕ, ◌==◌, List, Option, Some, None, if◌then◌else◌}
use Rattle.htl_event.specs.declared.slot.Slot.{Slot}
use Rattle.htl_event.specs.declared.slot.Slot.TheVariants.{Bad}
use Rattle.htl_event.specs.declared.slot.Count.{Count}

-- the row of a slot that came so often with a stack, if that is one of the process's bad references
abbrev pub bad_row : ℕ → Slot → List ℕ → Count → Option (ℕ × List ℕ × ℕ)
bad_row process (Bad its handle) stack count = if its == process then Some (handle, stack, count.plus) else None
bad_row process other stack count = None
