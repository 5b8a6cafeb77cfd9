-- `==` says of slots and of counts whether they are equal.
use Rattle.std.proofs.Common.{◌≡◌, arith, ◌&&◌, rules}
use Rattle.std.specs.Bool.{Decides}
use Rattle.std.proofs.lemmas.Bool.Decides.{nat_tests}
use Rattle.std.specs.Cmp.{unsigned_Decides}
use Rattle.std.specs.Cmp.Lexicographic.{pointwise_decides}
use Rattle.htl_event.specs.declared.slot.Slot.{Slot}
use Rattle.htl_event.specs.declared.slot.Slot.TheVariants.{Tagged, Handles, Bad}
use Rattle.htl_event.specs.declared.slot.Count.{Count}
use Rattle.htl_event.specs.contracts.slot.SlotPartialEq.TheImpl as slot
use Rattle.htl_event.specs.contracts.slot.CountPartialEq.TheImpl as count

-- `==` of slots decides whether they are equal
pub slot_Decides : (x y : Slot) → Decides (slot.ghosts.eq x y) (x ≡ y)
slot_Decides (Tagged a b) (Tagged c d) = let tags = pointwise_decides unsigned_Decides b d in grind (arith, nat_tests, tags)
slot_Decides (Handles a) (Handles b) = grind (arith, nat_tests)
slot_Decides (Bad a b) (Bad c d) = grind (arith, nat_tests)
slot_Decides (Tagged a b) (Handles c) = (λ e. cc, λ e. cc)
slot_Decides (Tagged a b) (Bad c d) = (λ e. cc, λ e. cc)
slot_Decides (Handles a) (Tagged b c) = (λ e. cc, λ e. cc)
slot_Decides (Handles a) (Bad b c) = (λ e. cc, λ e. cc)
slot_Decides (Bad a b) (Tagged c d) = (λ e. cc, λ e. cc)
slot_Decides (Bad a b) (Handles c) = (λ e. cc, λ e. cc)

count_Decides : (x y : Count) → Decides (count.ghosts.eq x y) (x ≡ y)
count_Decides x y = search rules

-- and so does that of slots with their counts
pub entry_Decides : (x y : Slot × Count) → Decides (slot.ghosts.eq x.0 y.0 && count.ghosts.eq x.1 y.1) (x ≡ y)
entry_Decides x y = let a = slot_Decides x.0 y.0 in let b = count_Decides x.1 y.1 in grind (arith, a, b)
