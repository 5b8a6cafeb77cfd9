-- How often processes used handles, from the sums of slots.
use Rattle.std.specs.Prelude.{◌+◌, ◌<◌, ◌^◌, Option, Some, None}
use Rattle.htl_event.specs.declared.slot.Slot.{Slot}
use Rattle.htl_event.specs.declared.slot.Slot.TheVariants.{Tagged, Handles, Bad}
use Rattle.htl_event.specs.declared.slot.Count.{Count}
use Rattle.htl_summary.specs.declared.usage.Usage.{Usage}

-- what the sum of a slot says of a process
abbrev pub usage_of : Slot → Count → Option Usage
usage_of (Handles process) count = Some (record { process = process; opens = count.plus; closes = count.minus; bad = 0 })
usage_of (Bad process handle) count = Some (record { process = process; opens = 0; closes = 0; bad = count.plus })
usage_of (Tagged object tag) count = None

abbrev pub both_usages : Usage → Usage → Usage
both_usages a b = record { process = a.process; opens = a.opens + b.opens; closes = a.closes + b.closes; bad = a.bad + b.bad }

abbrev pub FitUsages : Usage → Usage → Type 0
FitUsages a b = (a.opens + b.opens < 2 ^ 64) × (a.closes + b.closes < 2 ^ 64) × (a.bad + b.bad < 2 ^ 64)
