-- The rows of events count what the events do.
use Rattle.std.proofs.Common.{◌≡◌, ℕ, ◌≤◌, Bool, true, false, cond, ◌&&◌, List, [], ◌∷◌, ◌++◌, length, Option, Some, None}
use Rattle.std.proofs.Common.{refl, sym, ap, ◌∙◌, arith, nat_eq}
use Rattle.std.specs.List.{sum_by}
use Rattle.std.specs.Option.{option_map}
use Rattle.std.specs.Ordering.{is_eq, ordering_then}
use Rattle.std.specs.Cmp.{unsigned_Decides}
use Rattle.std.specs.Cmp.Lexicographic.{pointwise, pointwise_decides}
use Rattle.std.specs.declared.cmp.Ordering.{Ordering}
use Rattle.std.specs.declared.cmp.Ordering.TheVariants.{Less, Equal, Greater}
use Rattle.std.proofs.Math.Bool.{and-true}
use Rattle.std.proofs.lemmas.Bool.Decides.{same_from_decides}
use Rattle.std.proofs.lemmas.List.Elements.{filter_map-append}
use Rattle.std.proofs.lemmas.List.Sums.{sum_by-cons}
use Rattle.htl_event.specs.Events.{Event}
use Rattle.htl_event.specs.declared.slot.Slot.{Slot}
use Rattle.htl_event.specs.declared.slot.Sign.{Sign}
use Rattle.htl_event.specs.declared.slot.Sign.TheVariants.{Plus, Minus}
use Rattle.htl_event.specs.declared.slot.Count.{Count}
use Rattle.htl_event.specs.Slots.{slot_of, same_slot, same_sign, is_slot, is_counted}
use Rattle.htl_event.specs.SlotOrder.{slot_cmp}
use Rattle.htl_event.specs.OrderLaws.{stack_ties}
use Rattle.htl_event.specs.Stacks.{stack_cmp}
use Rattle.htl_event.specs.Tallies.{zero_count, times, count_where, has_stack, tally, total_of}
use Rattle.htl_tree.specs.declared.slots.Slots.{Slots}
use Rattle.htl_tree.specs.HasSlot.{has_slot}
use Rattle.htl_tree.proofs.Under.{same_slot_Decides, same_slot_tied}
use Rattle.htl_answers.specs.Counts.{one_count}
use Rattle.htl_answers.specs.RowOrder.{row_cmp}
use Rattle.htl_answers.specs.Rows.{at_key, count_of, total_in, EachPositive, if_asked, row_of, rows_of}
use Rattle.htl_answers.specs.Sums.{times_of}
use Rattle.htl_answers.proofs.NumberSums.{sum_same, cond_sum, none_or_none, amount, sum_filter_map}
use Rattle.htl_answers.proofs.RowCounts.{plus_side, minus_side}
use Rattle.htl_answers.proofs.FilterMaps.{Contains-from_filter_map}

abbrev side : Sign → Count → ℕ
side Plus = plus_side
side Minus = minus_side

own_side : (sign one : Sign) → side sign (one_count one) ≡ cond (same_sign sign one) 1 0
own_side Plus Plus = refl
own_side Plus Minus = refl
own_side Minus Plus = refl
own_side Minus Minus = refl

module _ {K : Type 0} (cmp : K → K → Ordering) (key : Slot → List ℕ → K) (slots : Slots) where
  abbrev row_if : List ℕ → Option (Slot × Sign) → Option (K × Count)
  row_if stack o = option_map (λ x. (key x.0 stack, one_count x.1)) (if_asked slots o)

  module _ (k : K) (slot : Slot) (passes : Event → Bool)
      (same : (s : Slot) (e : Event) → is_eq (cmp k (key s e.stack)) ≡ (same_slot slot s && passes e)) where
    -- one event's row
    one_row : (sign : Sign) (e : Event) (o : Option (Slot × Sign)) → amount (at_key cmp k (side sign)) (row_if e.stack o)
        ≡ cond (has_slot slots slot) (cond (is_slot slot sign o && passes e) 1 0) 0
    one_row sign e None = sym (none_or_none (has_slot slots slot))
    one_row sign e (Some x) =
        asked (has_slot slots x.0) ∙ ap (λ b. cond (has_slot slots x.0) (cond b (side sign (one_count x.1)) 0) 0) (same x.0 e)
        ∙ tied (same_slot slot x.0) refl
      where
        asked : (b : Bool) → amount (at_key cmp k (side sign)) (option_map (λ y. (key y.0 e.stack, one_count y.1)) (cond b (Some x) None))
            ≡ cond b (cond (is_eq (cmp k (key x.0 e.stack))) (side sign (one_count x.1)) 0) 0
        asked true = refl
        asked false = refl

        table : (a b c : Bool) → ◌≡◌ {A = ℕ} (cond a (cond b (cond c 1 0) 0) 0) (cond a (cond (c && b) 1 0) 0)
        table true true true = refl
        table true true false = refl
        table true false true = refl
        table true false false = refl
        table false b c = refl

        tied : (b : Bool) → same_slot slot x.0 ≡ b → cond (has_slot slots x.0) (cond (b && passes e) (side sign (one_count x.1)) 0) 0
            ≡ cond (has_slot slots slot) (cond ((b && same_sign sign x.1) && passes e) 1 0) 0
        tied true e1 =
            ap (λ s. cond (has_slot slots s) (cond (passes e) (side sign (one_count x.1)) 0) 0) (sym ((same_slot_Decides slot x.0).0 e1))
            ∙ ap (λ n. cond (has_slot slots slot) (cond (passes e) n 0) 0) (own_side sign x.1)
            ∙ table (has_slot slots slot) (passes e) (same_sign sign x.1)
        tied false e1 = none_or_none (has_slot slots x.0) ∙ sym (none_or_none (has_slot slots slot))

    events_side : (sign : Sign) (events : List Event)
        → sum_by (at_key cmp k (side sign)) (rows_of key slots events) ≡ cond (has_slot slots slot) (times passes events slot sign) 0
    events_side sign events =
        sum_filter_map (at_key cmp k (side sign)) (row_of key slots) events
        ∙ sum_same (λ (e : Event). amount (at_key cmp k (side sign)) (row_of key slots e))
        (λ (e : Event). cond (has_slot slots slot) (cond (is_counted slot sign e && passes e) 1 0) 0) events
        (λ e h. one_row sign e (slot_of e))
        ∙ sym (cond_sum (has_slot slots slot) (λ e. cond (is_counted slot sign e && passes e) 1 0) events)

    -- the rows count at the key what the events do, where the slot is asked for
    pub count_of-events : (events : List Event)
        → count_of cmp k (rows_of key slots events) ≡ cond (has_slot slots slot) (count_where passes events slot) zero_count
    count_of-events events =
        (elim (has_slot slots slot) as (λ b. sum_by (at_key cmp k plus_side) (rows_of key slots events) ≡ cond b (times passes events slot Plus) 0
        → sum_by (at_key cmp k minus_side) (rows_of key slots events) ≡ cond b (times passes events slot Minus) 0
        → count_of cmp k (rows_of key slots events) ≡ cond b (count_where passes events slot) zero_count) [
          | true ↦ λ p m. λ i. record { plus = p i; minus = m i }
          | false ↦ λ p m. λ i. record { plus = p i; minus = m i }
        ]) (events_side Plus events) (events_side Minus events)

  own_count : (sign : Sign) → total_of (one_count sign) ≡ 1
  own_count Plus = refl
  own_count Minus = refl

  one_or_none : (stack : List ℕ) (o : Option (Slot × Sign)) (row : K × Count) → row_if stack o ≡ Some row → total_of row.1 ≡ 1
  one_or_none stack None row e = absurd cc
  one_or_none stack (Some x) row e = go (has_slot slots x.0) e
    where
      go : (b : Bool) → option_map (λ y. (key y.0 stack, one_count y.1)) (cond b (Some x) None) ≡ Some row → total_of row.1 ≡ 1
      go true is = let counts : one_count x.1 ≡ row.1 = cc in ap total_of (sym counts) ∙ own_count x.1
      go false is = absurd cc

  -- no row of an event counts zero
  pub rows_positive : (events : List Event) → EachPositive (rows_of key slots events)
  rows_positive events row h =
      let from = Contains-from_filter_map (row_of key slots) events row h in
      let one = one_or_none from.0.stack (slot_of from.0) row from.2 in
      omega (arith, one)

  at_most_one : (o : Option (K × Count)) → ((row : K × Count) → o ≡ Some row → total_of row.1 ≡ 1) → amount (λ row. total_of row.1) o ≤ 1
  at_most_one None h = omega arith
  at_most_one (Some row) h = let one = h row refl in omega (arith, one)

  -- the rows of events count no more in all than there are events
  pub rows_few : (events : List Event) → total_in (rows_of key slots events) ≤ length events
  rows_few [] = omega arith
  rows_few (e ∷ es) =
      let all = sum_filter_map (λ (row : K × Count). total_of row.1) (row_of key slots) (e ∷ es) in
      let rest = rows_few es in
      let others = sum_filter_map (λ (row : K × Count). total_of row.1) (row_of key slots) es in
      let both = sum_by-cons (λ (x : Event). amount (λ row. total_of row.1) (row_of key slots x)) e es in
      let one = at_most_one (row_of key slots e) (one_or_none e.stack (slot_of e)) in
      omega (arith, all, rest, others, both, one)

-- ---- the two kinds of key

-- by slots
pub slot_counts : (slots : Slots) (slot : Slot) (events : List Event)
    → count_of slot_cmp slot (rows_of (λ s stack. s) slots events) ≡ cond (has_slot slots slot) (times_of events slot) zero_count
slot_counts slots slot events =
    count_of-events slot_cmp (λ s stack. s) slots slot slot (λ e. true)
    (λ s e. sym (and-true (same_slot slot s) ∙ same_slot_tied slot s)) events

tied_both : (r s : Ordering) → is_eq (ordering_then r s) ≡ (is_eq r && is_eq s)
tied_both Less s = refl
tied_both Equal s = refl
tied_both Greater s = refl

stacks_tied : (a b : List ℕ) → is_eq (stack_cmp a b) ≡ pointwise nat_eq b a
stacks_tied a b =
    sym (stack_ties a b) ∙ same_from_decides (pointwise nat_eq a b) (pointwise nat_eq b a) (pointwise_decides unsigned_Decides a b)
    ((λ e. sym ((pointwise_decides unsigned_Decides b a).0 e)), λ e. (pointwise_decides unsigned_Decides b a).1 (sym e))

pub row_tied : (x y : Slot × List ℕ) → is_eq (row_cmp x y) ≡ (same_slot x.0 y.0 && pointwise nat_eq y.1 x.1)
row_tied x y = tied_both (slot_cmp x.0 y.0) (stack_cmp x.1 y.1)
    ∙ ap (λ b. b && is_eq (stack_cmp x.1 y.1)) (sym (same_slot_tied x.0 y.0))
    ∙ ap (λ b. same_slot x.0 y.0 && b) (stacks_tied x.1 y.1)

-- by slots and stacks
pub stack_counts : (slots : Slots) (slot : Slot) (stack : List ℕ) (events : List Event)
    → count_of row_cmp (slot, stack) (rows_of (λ s f. (s, f)) slots events) ≡ cond (has_slot slots slot) (tally events slot stack) zero_count
stack_counts slots slot stack events =
    count_of-events row_cmp (λ s f. (s, f)) slots (slot, stack) slot (has_stack stack) (λ s e. row_tied (slot, stack) (s, e.stack)) events

-- ---- lists of events

-- the rows of two lists of events are those of the first, and then those of the second
pub rows_of-append : {K : Type 0} (key : Slot → List ℕ → K) (slots : Slots) (xs ys : List Event)
    → rows_of key slots (xs ++ ys) ≡ rows_of key slots xs ++ rows_of key slots ys
rows_of-append key slots xs ys = filter_map-append (row_of key slots) xs ys

-- where an option is none, there is no row of it
pub no_row : {X Y : Type 0} (f : X → Y) (o p : Option X) → o ≡ p → ((x : X) → o ≡ Some x → ⊥) → (y : Y) → option_map f p ≡ Some y → ⊥
no_row f o None is none y e = cc
no_row f o (Some x) is none y e = none x is
