-- Filters: one bit of 64 for each slot. By them a walk skips nodes that can't count a slot.
use Rattle.std.specs.Prelude.{◌≡◌, ℕ, ◌*◌, ◌/◌, ◌%◌, ◌^◌, List}
use Rattle.std.specs.List.{AllByRecursion}
use Rattle.std.specs.Int.Bits.{bit_and}
use Rattle.htl_event.specs.declared.slot.Slot.{Slot}
use Rattle.htl_event.specs.declared.slot.Slot.TheVariants.{Tagged, Handles, Bad}
use Rattle.htl_event.specs.declared.slot.Count.{Count}
use Rattle.htl_tree.specs.declared.slots.Slots.{Slots}
use Rattle.htl_tree.specs.declared.slots.Slots.TheVariants.{All, One, OfObject, BadOf}

-- the bit of an object or a process: objects are multiples of 16 and processes of 4, so the product spreads them
unfoldable pub bit_of : ℕ → ℕ
bit_of number = 2 ^ (number * 0x9e3779b97f4a7c15 % 2 ^ 64 / 2 ^ 58)

-- slots of one object have one filter, and so have those of one process
abbrev pub filter_of : Slot → ℕ
filter_of (Tagged object tag) = bit_of object
filter_of (Handles process) = bit_of process
filter_of (Bad process handle) = bit_of process

-- the bits that the filters of all slots that are asked for have in common
abbrev pub common_filter : Slots → ℕ
common_filter All = 0
common_filter (One slot) = filter_of slot
common_filter (OfObject object) = bit_of object
common_filter (BadOf process) = bit_of process

-- the slot's filter is in the number
abbrev pub HasFilter : ℕ → Slot → Type 0
HasFilter filters slot = bit_and filters (filter_of slot) ≡ filter_of slot

-- all filters of the second number are in the first
abbrev pub HasFiltersOf : ℕ → ℕ → Type 0
HasFiltersOf filters others = (slot : Slot) → HasFilter others slot → HasFilter filters slot

-- the filters of all these slots are in the number
abbrev pub HaveFilters : ℕ → List (Slot × Count) → Type 0
HaveFilters filters counts = AllByRecursion (λ (e : Slot × Count). HasFilter filters e.0) counts
