-- The order of slots: by kind as the kinds stand here, and then by the numbers that name the slot.
use Rattle.std.specs.Prelude.{ℕ, List, [], ◌∷◌}
use Rattle.std.specs.Ordering.{nat_cmp, on}
use Rattle.std.specs.Cmp.Lexicographic.{slice_cmp}
use Rattle.std.specs.declared.cmp.Ordering.{Ordering}
use Rattle.htl_event.specs.declared.slot.Slot.{Slot}
use Rattle.htl_event.specs.declared.slot.Slot.TheVariants.{Tagged, Handles, Bad}

-- objects by address and tag, handles by process, bad references by process and handle as written
abbrev pub slot_key : Slot → List ℕ
slot_key (Tagged object tag) = 0 ∷ object ∷ tag
slot_key (Handles process) = 1 ∷ process ∷ []
slot_key (Bad process handle) = 2 ∷ process ∷ handle ∷ []

-- Slot order (this project's own): that of the keys, number by number.
abbrev pub slot_cmp : Slot → Slot → Ordering
slot_cmp = on slot_key (slice_cmp nat_cmp)
