-- The counts of slots over all events are the lists that are asked for.
use Rattle.std.proofs.Common.{◌≡◌, ℕ, true, List, [], ◌∷◌, map, refl, sym, ap, subst, ◌∙◌}
use Rattle.std.specs.Prelude.{Contains}
use Rattle.std.specs.Ordering.{ordering_then}
use Rattle.std.specs.declared.cmp.Ordering.TheVariants.{Less}
use Rattle.std.proofs.lemmas.Cmp.{tied_itself}
use Rattle.htl_event.specs.Events.{Event}
use Rattle.htl_event.specs.declared.slot.Slot.{Slot}
use Rattle.htl_event.specs.declared.slot.Slot.TheVariants.{Tagged}
use Rattle.htl_event.specs.declared.slot.Count.{Count}
use Rattle.htl_event.specs.SlotOrder.{slot_cmp}
use Rattle.htl_event.specs.OrderLaws.{slot_total, slot_same}
use Rattle.htl_event.specs.Stacks.{stack_cmp}
use Rattle.htl_event.specs.Members.{IsRising, Lists}
use Rattle.htl_event.specs.Tallies.{tally, IsPositive, ByStack, IsStacks}
use Rattle.htl_event.proofs.Members.{Contains-here, Contains-there, Contains-map, Contains-from_map, at_member, each_member}
use Rattle.htl_tree.specs.declared.slots.Slots.{Slots}
use Rattle.htl_tree.specs.declared.slots.Slots.TheVariants.{All, One}
use Rattle.htl_tree.specs.HasSlot.{has_slot}
use Rattle.htl_tree.proofs.Under.{same_slot_Decides}
use Rattle.htl_answers.specs.RowOrder.{row_cmp, row_same}
use Rattle.htl_answers.specs.Rows.{count_of, rows_of, ByKey, EachPositive}
use Rattle.htl_answers.specs.Sums.{times_of, ListsSlotSums}
use Rattle.htl_answers.proofs.RowCounts.{listed_counts}
use Rattle.htl_answers.proofs.EventRows.{slot_counts, stack_counts}
use Rattle.htl_answers.proofs.FoldedRows.{less_differs, row_total}

-- the row has a slot that is asked for, and how often that came with whatever stack, which isn't zero
abbrev pub IsSum : Slots → List Event → Slot × Count → Type 0
IsSum slots events sum = (sum.1 ≡ times_of events sum.0) × IsPositive sum.1 × (has_slot slots sum.0 ≡ true)

-- sums that count what the rows of the events do list how often each asked slot came
pub sums_listed : (slots : Slots) (events : List Event) (sums : List (Slot × Count)) → IsRising (ByKey slot_cmp) sums → EachPositive sums
    → ((k : Slot) → count_of slot_cmp k sums ≡ count_of slot_cmp k (rows_of (λ s stack. s) slots events))
    → Lists (ByKey slot_cmp) (IsSum slots events) sums
sums_listed slots events sums rising positive counts =
    listed_counts slot_total slot_same (λ a b less. less_differs slot_total a.0 b.0 less) (times_of events) (has_slot slots) sums rising positive
    (λ k. counts k ∙ slot_counts slots k events)

-- of all slots
pub all_listed : (events : List Event) (sums : List (Slot × Count)) → Lists (ByKey slot_cmp) (IsSum All events) sums → ListsSlotSums events sums
all_listed events sums listed = record {
  rising = listed.rising;
  members = λ sum. (
    (λ h. let is = (listed.members sum).0 h in (is.0, is.1)),
    λ h. (listed.members sum).1 (h.0, h.1, refl),
  );
}

-- the row has a slot that is asked for with a stack, and how often they came, which isn't zero
abbrev pub IsCount : Slots → List Event → (Slot × List ℕ) × Count → Type 0
IsCount slots events row = (row.1 ≡ tally events row.0.0 row.0.1) × IsPositive row.1 × (has_slot slots row.0.0 ≡ true)

-- rows that count what the rows of the events do list how often each asked slot came with each stack
pub counts_listed : (slots : Slots) (events : List Event) (rows : List ((Slot × List ℕ) × Count)) → IsRising (ByKey row_cmp) rows
    → EachPositive rows → ((k : Slot × List ℕ) → count_of row_cmp k rows ≡ count_of row_cmp k (rows_of (λ s stack. (s, stack)) slots events))
    → Lists (ByKey row_cmp) (IsCount slots events) rows
counts_listed slots events rows rising positive counts =
    listed_counts row_total row_same (λ a b less. less_differs row_total a.0 b.0 less) (λ (k : Slot × List ℕ). tally events k.0 k.1)
    (λ (k : Slot × List ℕ). has_slot slots k.0) rows rising positive (λ k. counts k ∙ stack_counts slots k.0 k.1 events)

-- ---- the stacks of one slot

-- the row without its slot
abbrev pub strip : (Slot × List ℕ) × Count → List ℕ × Count
strip row = (row.0.1, row.1)

module _ (slot : Slot) where
  stacks_rise : (rows : List ((Slot × List ℕ) × Count)) → IsRising (ByKey row_cmp) rows
      → ((row : (Slot × List ℕ) × Count) → Contains rows row → slot ≡ row.0.0) → IsRising ByStack (map strip rows)
  stacks_rise [] rising of = tt
  stacks_rise (x ∷ rows) rising of = (
    each_member (ByStack (strip x)) (map strip rows) (λ y h.
        let from = Contains-from_map strip rows y h in
        subst (λ z. ByStack (strip x) z) from.2 (less x from.0 (of x (Contains-here x rows)) (of from.0 (Contains-there x rows from.0 from.1))
        (at_member (ByKey row_cmp x) rows from.0 rising.0 from.1))),
    stacks_rise rows rising.1 (λ row h. of row (Contains-there x rows row h)),
  )
    where
      less : (a b : (Slot × List ℕ) × Count) → slot ≡ a.0.0 → slot ≡ b.0.0 → ByKey row_cmp a b → ByStack (strip a) (strip b)
      less a b of_a of_b before =
          let same : ordering_then (slot_cmp slot slot) (stack_cmp a.0.1 b.0.1) ≡ Less =
          ap (λ s. ordering_then (slot_cmp s slot) (stack_cmp a.0.1 b.0.1)) of_a
          ∙ ap (λ s. ordering_then (slot_cmp a.0.0 s) (stack_cmp a.0.1 b.0.1)) of_b ∙ before in
          sym (ap (λ r. ordering_then r (stack_cmp a.0.1 b.0.1)) (tied_itself slot_total slot)) ∙ same

-- the rows of an object's tag, without the slot, are its reference stacks
pub stacks_listed : (events : List Event) (object : ℕ) (tag : List ℕ) (rows : List ((Slot × List ℕ) × Count))
    → Lists (ByKey row_cmp) (IsCount (One (Tagged object tag)) events) rows → IsStacks events object tag (map strip rows)
stacks_listed events object tag rows listed = record {
  rising = stacks_rise (Tagged object tag) rows listed.rising (λ row h. of_slot row ((listed.members row).0 h));
  members = λ row. (
    (λ h. let from = Contains-from_map strip rows row h in
        let is = (listed.members from.0).0 from.1 in
        subst (λ (r : List ℕ × Count). (r.1 ≡ tally events (Tagged object tag) r.0) × IsPositive r.1) from.2
        (is.0 ∙ ap (λ s. tally events s from.0.0.1) (sym (of_slot from.0 is)), is.1)),
    λ h. Contains-map strip rows ((Tagged object tag, row.0), row.1)
        ((listed.members ((Tagged object tag, row.0), row.1)).1 (h.0, h.1, (same_slot_Decides (Tagged object tag) (Tagged object tag)).1 refl)),
  );
}
  where
    of_slot : (row : (Slot × List ℕ) × Count) → IsCount (One (Tagged object tag)) events row → Tagged object tag ≡ row.0.0
    of_slot row is = (same_slot_Decides (Tagged object tag) row.0.0).0 is.2
