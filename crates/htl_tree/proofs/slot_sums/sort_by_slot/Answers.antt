-- The counts are in the order of their slots.
use Rattle.std.proofs.Common.{rules, ◌≡◌}
use Rattle.std.proofs.lemmas.Fn.{always_returns_same}
use Rattle.htl_event.specs.declared.slot.Slot.{Slot}
use Rattle.htl_event.specs.declared.slot.Count.{Count}
use Rattle.htl_tree.proofs.slot_sums.sort_by_slot.Goals as goal

pub returns-clause-sorted : goal.returns-clause-sorted
returns-clause-sorted g c = c.sort_unstable_by_key.ensures.sorted (λ (e : Slot × Count). e.0)
    (always_returns_same _ (λ a r. r ≡ a.0.now.0) _ (λ a r q k. search rules))
