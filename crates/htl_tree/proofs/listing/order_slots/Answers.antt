-- A sorted list without repeats rises and keeps its members.
use Rattle.std.proofs.Common.{◌≡◌, sym, ap, ◌∙◌}
use Rattle.std.specs.Ordering.{is_eq, eq_by_cmp}
use Rattle.std.specs.Cmp.{tied_itself, Equal-is}
use Rattle.std.proofs.lemmas.Bool.Decides.{same_from_decides}
use Rattle.std.proofs.lemmas.List.Filters.{dedup_is}
use Rattle.std.proofs.lemmas.List.Kept.{Contains-dedup, Contains-from_dedup, IsStrictlySortedBy-dedup}
use Rattle.std.proofs.lemmas.List.Sorted.{Contains-permutation, IsPermutation-sym}
use Rattle.htl_event.specs.declared.slot.Slot.{Slot}
use Rattle.htl_event.specs.contracts.slot.SlotPartialEq.TheImpl as slot
use Rattle.htl_event.specs.contracts.slot.SlotEq.TheImpl.Laws.{laws-law}
use Rattle.htl_event.specs.SlotOrder.{slot_cmp}
use Rattle.htl_event.specs.OrderLaws.{slot_total, slot_same}
use Rattle.htl_tree.proofs.EqualCounts.{slot_Decides}
use Rattle.htl_tree.proofs.SlotRows.{rising_strict}
use Rattle.htl_tree.proofs.listing.order_slots.Goals as goal

ties : (x y : Slot) → slot.ghosts.eq x y ≡ eq_by_cmp slot_cmp x y
ties x y = same_from_decides {P = x ≡ y} _ _ (slot_Decides x y) (
  λ e. slot_same x y ((Equal-is (slot_cmp x y)).0 e),
  λ e.
      ap (λ z. eq_by_cmp slot_cmp x z) (sym e) ∙ ap is_eq (tied_itself slot_total x),
)

pub returns-clause-rising : goal.returns-clause-rising
returns-clause-rising c =
    let is = dedup_is _ _ _ c.dedup.ensures.filtered in
    rw is (rising_strict _ (IsStrictlySortedBy-dedup slot_total ties _ c.sort_unstable.ensures.sorted))

pub returns-clause-members : goal.returns-clause-members
returns-clause-members c s =
    let is = dedup_is _ _ _ c.dedup.ensures.filtered in
    let moved = c.sort_unstable.ensures.permutation in (
      λ h. Contains-permutation _ _ s (IsPermutation-sym _ _ moved) (Contains-from_dedup slot.ghosts.eq _ s (rw is at h)),
      λ h. rw is (Contains-dedup laws-law (λ x y. (slot_Decides x y).0) _ s (Contains-permutation _ _ s moved h)),
    )
