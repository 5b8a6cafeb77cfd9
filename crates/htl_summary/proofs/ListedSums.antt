-- Any events have a list of how often each of their slots came.
use Rattle.std.proofs.Common.{◌≡◌, ◌⊎◌, ◌<◌, true, ◌&&◌, List, Option, Some, None, map, refl, sym, ap, subst, arith, inl, inr}
use Rattle.std.specs.Prelude.{Contains, ◌↔◌}
use Rattle.std.specs.List.{filter_map}
use Rattle.std.specs.declared.cmp.Ordering.{Ordering}
use Rattle.std.specs.declared.cmp.Ordering.TheVariants.{Less, Equal, Greater}
use Rattle.std.proofs.lemmas.Bool.{and_parts, cases_lt}
use Rattle.std.proofs.lemmas.Option.{same_Some}
use Rattle.htl_event.specs.Events.{Event}
use Rattle.htl_event.specs.declared.slot.Slot.{Slot}
use Rattle.htl_event.specs.declared.slot.Sign.{Sign}
use Rattle.htl_event.specs.declared.slot.Sign.TheVariants.{Plus, Minus}
use Rattle.htl_event.specs.declared.slot.Count.{Count}
use Rattle.htl_event.specs.Slots.{slot_of, is_slot, is_counted}
use Rattle.htl_event.specs.SlotOrder.{slot_cmp}
use Rattle.htl_event.specs.OrderLaws.{slot_total, slot_same}
use Rattle.htl_event.specs.Tallies.{times, IsPositive}
use Rattle.htl_event.proofs.Members.{Contains-map, Contains-from_map}
use Rattle.htl_sorted.proofs.Places.{turn}
use Rattle.htl_tree.specs.Trees.{BySlot}
use Rattle.htl_tree.proofs.Under.{same_slot_Decides}
use Rattle.htl_answers.specs.Sums.{times_of, ListsSlotSums}
use Rattle.htl_answers.proofs.FilterMaps.{Contains-filter_map, Contains-from_filter_map}
use Rattle.htl_answers.proofs.Opens.{IsRising-map}
use Rattle.htl_summary.proofs.Counting.{exists_one}
use Rattle.htl_summary.proofs.Placed.{in_order}
use Rattle.htl_summary.proofs.SlotSums.{BySlot-strict, came}

compare : (s t : Slot) → BySlot s t ⊎ ((s ≡ t) ⊎ BySlot t s)
compare s t = go (slot_cmp s t) refl
  where
    go : (o : Ordering) → slot_cmp s t ≡ o → BySlot s t ⊎ ((s ≡ t) ⊎ BySlot t s)
    go Less e = inl e
    go Equal e = inr (inl (slot_same s t e))
    go Greater e = inr (inr (turn slot_total s t Greater e))

-- the slot that an event is counted under, on whichever side
abbrev slot_named : Option (Slot × Sign) → Option Slot
slot_named None = None
slot_named (Some counted) = Some counted.0

named_so : (o : Option (Slot × Sign)) (slot : Slot) → slot_named o ≡ Some slot → (sign : Sign) × (o ≡ Some (slot, sign))
named_so None slot e = absurd cc
named_so (Some counted) slot e = (counted.1, ap (λ (s : Slot). Some (s, counted.1)) (same_Some counted.0 slot e))

counted_named : (slot : Slot) (sign : Sign) (o : Option (Slot × Sign)) → is_slot slot sign o ≡ true → slot_named o ≡ Some slot
counted_named slot sign None e = absurd cc
counted_named slot sign (Some counted) e = ap (λ (s : Slot). Some s) (sym ((same_slot_Decides slot counted.0).0 (and_parts _ _ e).0))

module _ (events : List Event) where
  abbrev slot_at : Event → Option Slot
  slot_at e = slot_named (slot_of e)

  abbrev named : List Slot
  named = filter_map slot_at events

  -- the slots of the events are those that came
  named_came : (slot : Slot) → Contains named slot ↔ IsPositive (times_of events slot)
  named_came slot = (
    λ h.
        let (e, here, at) = Contains-from_filter_map slot_at events slot h in
        let (sign, is) = named_so (slot_of e) slot at in
        came events e slot sign here is,
    λ some. elim (cases_lt 0 (times_of events slot).plus) [
      | inl above ↦ side Plus above
      | inr none ↦ side Minus (omega (arith, some, none))
    ],
  )
    where
      side : (sign : Sign) → 0 < times (λ e. true) events slot sign → Contains named slot
      side sign lt =
          let (e, here, is) = exists_one (λ (x : Event). is_counted slot sign x && true) events lt in
          Contains-filter_map slot_at events e slot here (counted_named slot sign (slot_of e) (and_parts (is_counted slot sign e) true is).0)

  abbrev sum_of : Slot → Slot × Count
  sum_of slot = (slot, times_of events slot)

  -- each slot with how often it came, in slot order
  pub slot_sums : (sums : List (Slot × Count)) × ListsSlotSums events sums
  slot_sums =
      let (slots, listed) = in_order BySlot BySlot-strict compare named in (
        map sum_of slots,
        record {
          rising = IsRising-map BySlot (λ (a b : Slot × Count). BySlot a.0 b.0) sum_of (λ s t h. h) slots listed.rising;
          members = λ sum. (
            λ h.
                let (slot, there, is) = Contains-from_map sum_of slots sum h in
                subst (λ (s : Slot × Count). (s.1 ≡ times_of events s.0) × IsPositive s.1) is
                (refl, (named_came slot).0 ((listed.members slot).0 there)),
            λ h.
                let some : IsPositive (times_of events sum.0) = subst IsPositive h.0 h.1 in
                subst (Contains (map sum_of slots)) (ap (λ (count : Count). (sum.0, count)) (sym h.0))
                (Contains-map sum_of slots sum.0 ((listed.members sum.0).1 ((named_came sum.0).1 some))),
          );
        },
      )
