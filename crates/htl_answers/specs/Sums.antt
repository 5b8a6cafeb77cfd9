-- How often each slot came, as a list.
use Rattle.std.specs.Prelude.{◌≡◌, true, List}
use Rattle.htl_event.specs.Events.{Event}
use Rattle.htl_event.specs.declared.slot.Slot.{Slot}
use Rattle.htl_event.specs.declared.slot.Count.{Count}
use Rattle.htl_event.specs.Members.{Lists}
use Rattle.htl_event.specs.Tallies.{count_where, IsPositive}
use Rattle.htl_tree.specs.Trees.{BySlot}

-- how often a slot came among the events, with whatever stack
abbrev pub times_of : List Event → Slot → Count
times_of events slot = count_where (λ e. true) events slot

-- each slot of the events and how often it came, in slot order
abbrev pub ListsSlotSums : List Event → List (Slot × Count) → Type 0
ListsSlotSums events sums = Lists (λ a b. BySlot a.0 b.0) (λ sum. (sum.1 ≡ times_of events sum.0) × IsPositive sum.1) sums
