-- The balances of an object's tags follow from the sums of its slots.
use Rattle.std.proofs.Common.{◌≡◌, ℕ, Bool, true, false, cond, List, Option, Some, None, refl, sym, ap, subst, ◌∙◌}
use Rattle.std.specs.Prelude.{Contains, ◌==◌}
use Rattle.std.specs.List.{filter_map}
use Rattle.std.specs.Ordering.{nat_cmp, ordering_then}
use Rattle.std.specs.Cmp.Lexicographic.{slice_cmp}
use Rattle.std.specs.declared.cmp.Ordering.TheVariants.{Less}
use Rattle.std.proofs.lemmas.Bool.{eqb-true}
use Rattle.std.proofs.lemmas.Bool.Decides.{Decides-eqb}
use Rattle.std.proofs.lemmas.Cmp.{tied_itself, nat_cmp_total}
use Rattle.htl_event.specs.Events.{Event}
use Rattle.htl_event.specs.declared.slot.Slot.{Slot}
use Rattle.htl_event.specs.declared.slot.Slot.TheVariants.{Tagged, Handles, Bad}
use Rattle.htl_event.specs.declared.slot.Count.{Count}
use Rattle.htl_event.specs.SlotOrder.{slot_cmp}
use Rattle.htl_event.specs.Members.{Lists}
use Rattle.htl_event.specs.Tallies.{balance, IsPositive, ByTag, IsTags}
use Rattle.htl_tree.specs.declared.slots.Slots.TheVariants.{OfObject}
use Rattle.htl_tree.specs.Trees.{BySlot}
use Rattle.htl_answers.specs.Rows.{ByKey}
use Rattle.htl_answers.specs.Sums.{times_of}
use Rattle.htl_answers.specs.Tags.{tag_row}
use Rattle.htl_answers.proofs.FilterMaps.{Contains-filter_map, Contains-from_filter_map, IsRising-filter_map}
use Rattle.htl_answers.proofs.SlotLists.{IsSum}

-- the tag row of a slot's sum, if the slot is of the object
abbrev pub row_of : ℕ → Slot × Count → Option (List ℕ × Count)
row_of object sum = tag_row object sum.0 sum.1

pub record IsRowOf (object : ℕ) (slot : Slot) (count : Count) (row : List ℕ × Count) : Type 0 where
  pub slot_is : slot ≡ Tagged object row.0
  pub count_is : row.1 ≡ count

-- a tag row that a slot has is of the object's tag, with the slot's count
pub row_is : (object : ℕ) (slot : Slot) (count : Count) (row : List ℕ × Count) → tag_row object slot count ≡ Some row
    → IsRowOf object slot count row
row_is object (Tagged its tag) count row e = go (its == object) refl e
  where
    go : (b : Bool) → its == object ≡ b → cond b (Some (tag, count)) None ≡ Some row → IsRowOf object (Tagged its tag) count row
    go true same e =
        let tags : tag ≡ row.0 = cc in
        let counts : count ≡ row.1 = cc in
        record {
          slot_is = ap (λ (o : ℕ). Tagged o tag) (eqb-true its object same) ∙ ap (λ (t : List ℕ). Tagged object t) tags;
          count_is = sym counts;
        }
    go false same e = absurd cc
row_is object (Handles process) count row e = absurd cc
row_is object (Bad process handle) count row e = absurd cc

-- the slot of an object's tag has this tag's row
pub row_at : (object : ℕ) (row : List ℕ × Count) → tag_row object (Tagged object row.0) row.1 ≡ Some row
row_at object row = rw ((Decides-eqb object object).1 refl) refl

-- the tag rows of two slots in order are in the order of tags
pub tags_rise : (object : ℕ) (s t : Slot × Count) (x y : List ℕ × Count) → BySlot s.0 t.0 → row_of object s ≡ Some x
    → row_of object t ≡ Some y → ByTag x y
tags_rise object s t x y less at_s at_t =
    let one = row_is object s.0 s.1 x at_s in
    let two = row_is object t.0 t.1 y at_t in
    let both : ordering_then (nat_cmp object object) (slice_cmp nat_cmp x.0 y.0) ≡ Less = rw (one.slot_is, two.slot_is) at less in
    rw (tied_itself nat_cmp_total object) at both

-- the sums of the object's slots
pub tags_of_sums : (events : List Event) (object : ℕ) (sums : List (Slot × Count))
    → Lists (ByKey slot_cmp) (IsSum (OfObject object) events) sums → IsTags events object (filter_map (row_of object) sums)
tags_of_sums events object sums listed = record {
  rising = IsRising-filter_map (ByKey slot_cmp) ByTag (row_of object) (tags_rise object) sums listed.rising;
  members = λ row. (from_rows row, into_rows row);
}
  where
    from_rows : (row : List ℕ × Count) → Contains (filter_map (row_of object) sums) row
        → (row.1 ≡ balance events object row.0) × IsPositive row.1
    from_rows row h =
        let from = Contains-from_filter_map (row_of object) sums row h in
        let row_at = row_is object from.0.0 from.0.1 row from.2 in
        let sum = (listed.members from.0).0 from.1 in
        (row_at.count_is ∙ sum.0 ∙ ap (times_of events) row_at.slot_is, subst IsPositive (sym row_at.count_is) sum.1)

    into_rows : (row : List ℕ × Count) → (row.1 ≡ balance events object row.0) × IsPositive row.1
        → Contains (filter_map (row_of object) sums) row
    into_rows row h =
        let sum : Slot × Count = (Tagged object row.0, row.1) in
        Contains-filter_map (row_of object) sums sum row ((listed.members sum).1 (h.0, h.1, (Decides-eqb object object).1 refl))
        (row_at object row)
