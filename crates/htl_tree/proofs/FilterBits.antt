-- A number keeps the filters of slots where others are added, and a slot that is counted has its filter there.
use Rattle.std.proofs.Common.{◌≡◌, ℕ, List, [], ◌∷◌, ◌++◌, Option, Some, None, cond, unwrap_or}
use Rattle.std.proofs.Common.{refl, sym, ap, subst, arith, inl, inr}
use Rattle.std.specs.Prelude.{◌⊎◌}
use Rattle.std.specs.Int.Bits.{bit_and, bit_or}
use Rattle.std.specs.Ordering.{is_eq}
use Rattle.std.specs.FinMap.Entries.{find, put, by_order}
use Rattle.std.specs.declared.cmp.Ordering.TheVariants.{Less, Equal, Greater}
use Rattle.std.proofs.lemmas.Bool.{cases_lt}
use Rattle.std.proofs.lemmas.Nat.{and_or_self}
use Rattle.std.proofs.lemmas.Nat.Bits.{bit_at_or, bit_at_and, same_from_bits}
use Rattle.std.specs.Int.{bit_at}
use Rattle.htl_event.specs.SlotOrder.{slot_cmp}
use Rattle.htl_event.specs.OrderLaws.{slot_total, slot_same}
use Rattle.htl_event.specs.Tallies.{zero_count, plus_count, total_of, IsPositive}
use Rattle.htl_event.specs.declared.slot.Slot.{Slot}
use Rattle.htl_event.specs.declared.slot.Sign.{Sign}
use Rattle.htl_event.specs.declared.slot.Count.{Count}
use Rattle.htl_sorted.specs.Entries.{IsSorted, Each}
use Rattle.htl_sorted.proofs.Finds.{each_found, all_from_found}
use Rattle.htl_tree.specs.Filters.{filter_of, HasFilter, HaveFilters}
use Rattle.htl_tree.specs.Nodes.{count_in, counted}

-- bits that either number has are in both together
pub or_left : (a b m : ℕ) → bit_and a m ≡ m → bit_and (bit_or a b) m ≡ m
or_left a b m h = same_from_bits _ _
    (λ i. omega (arith, bit_at_and (bit_or a b) m i, bit_at_or a b i, bit_at_and a m i, ap (λ n. bit_at n i) h))

-- bits that the second number has are in both together
pub or_right : (a b m : ℕ) → bit_and b m ≡ m → bit_and (bit_or a b) m ≡ m
or_right a b m h = same_from_bits _ _
    (λ i. omega (arith, bit_at_and (bit_or a b) m i, bit_at_or a b i, bit_at_and b m i, ap (λ n. bit_at n i) h))

-- zero isn't positive
pub not_zero : IsPositive zero_count → ⊥
not_zero h = omega (arith, h)

-- ---- lists whose slots have their filters in a number

-- slots whose filters a number has still have them where other bits are added behind
pub filters_more : (m n : ℕ) (es : List (Slot × Count)) → HaveFilters m es → HaveFilters (bit_or m n) es
filters_more m n [] h = tt
filters_more m n (e ∷ es) h = (or_left m n (filter_of e.0) h.0, filters_more m n es h.1)

-- slots whose filters a number has still have them where other bits are added before
pub filters_also : (m n : ℕ) (es : List (Slot × Count)) → HaveFilters n es → HaveFilters (bit_or m n) es
filters_also m n [] h = tt
filters_also m n (e ∷ es) h = (or_right m n (filter_of e.0) h.0, filters_also m n es h.1)

-- a number that has the filters of a list and of one more slot has those of both
pub filters_push : (m : ℕ) (es : List (Slot × Count)) (e : Slot × Count) → HaveFilters m es → HasFilter m e.0 → HaveFilters m (es ++ e ∷ [])
filters_push m [] e h new = (new, tt)
filters_push m (x ∷ es) e h new = (h.0, filters_push m es e h.1 new)

filters_put : (m : ℕ) (s : Slot) (v : Count) (es : List (Slot × Count)) → HasFilter m s → HaveFilters m es
    → HaveFilters m (put slot_cmp s v es)
filters_put m s v [] new h = (new, tt)
filters_put m s v (e ∷ es) new h = elim (slot_cmp s e.0)
    as (λ r. HaveFilters m (by_order r ((s, v) ∷ e ∷ es) ((e.0, v) ∷ es) (e ∷ put slot_cmp s v es))) [
      | Less ↦ (new, h)
      | Equal ↦ h
      | Greater ↦ (h.0, filters_put m s v es new h.1)
    ]

-- a slot that is counted once more, and its filter
pub filters_counted : (m : ℕ) (s : Slot) (sign : Sign) (es : List (Slot × Count)) → HaveFilters m es
    → HaveFilters (bit_or m (filter_of s)) (counted s sign es)
filters_counted m s sign es h = filters_put _ s _ es (and_or_self (filter_of s) m) (filters_more m (filter_of s) es h)

-- a slot that is found has its filter there
found_has_filter : (m : ℕ) (s : Slot) (v : Count) (es : List (Slot × Count)) → HaveFilters m es → find slot_cmp s es ≡ Some v → HasFilter m s
found_has_filter m s v [] h e = cc
found_has_filter m s v (e ∷ es) h found = (elim (slot_cmp s e.0)
    as (λ r. slot_cmp s e.0 ≡ r → cond (is_eq r) (Some e.1) (find slot_cmp s es) ≡ Some v → HasFilter m s) [
      | Less ↦ λ c is. found_has_filter m s v es h.1 is
      | Equal ↦ λ c is. subst (λ t. HasFilter m t) (sym (slot_same s e.0 c)) h.0
      | Greater ↦ λ c is. found_has_filter m s v es h.1 is
    ]) refl found

-- a slot that is counted has its filter there
pub counted_has_filter : (m : ℕ) (s : Slot) (es : List (Slot × Count)) → HaveFilters m es → IsPositive (count_in es s) → HasFilter m s
counted_has_filter m s es h some = of (find slot_cmp s es) refl
  where
    of : (o : Option Count) → find slot_cmp s es ≡ o → HasFilter m s
    of None none = absurd (not_zero (subst IsPositive (ap (λ (o : Option Count). unwrap_or o zero_count) none) some))
    of (Some v) found = found_has_filter m s v es h found

-- and a list whose counted slots have their filters there is one with these filters
pub filters_list : (m : ℕ) (es : List (Slot × Count)) → IsSorted slot_cmp es → Each IsPositive es
    → ((s : Slot) → IsPositive (count_in es s) → HasFilter m s) → HaveFilters m es
filters_list m es sorted positive h = all_from_found slot_cmp slot_total (λ s v. HasFilter m s) es sorted
    (λ s v found. h s (subst IsPositive (sym (ap (λ (o : Option Count). unwrap_or o zero_count) found))
    (each_found slot_cmp IsPositive s v es positive found)))

-- ---- sums that count something

-- where a sum of two counts isn't zero, one of them isn't
pub either_positive : (x y : Count) → IsPositive (plus_count x y) → IsPositive x ⊎ IsPositive y
either_positive x y some = elim (cases_lt 0 (total_of x)) [
  | inl here ↦ inl here
  | inr none ↦ inr (omega (arith, some, none))
]
