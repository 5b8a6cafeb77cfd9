-- The bad references of a process follow from the rows of its slots.
use Rattle.std.proofs.Common.{◌≡◌, ℕ, ◌<◌, Bool, true, false, cond, List, [], ◌∷◌, Option, Some, None, refl, sym, ap, subst, ◌∙◌, arith, ◌&&◌}
use Rattle.std.specs.Prelude.{Contains, ◌==◌}
use Rattle.std.specs.List.{filter_map}
use Rattle.std.specs.Option.{option_map}
use Rattle.std.specs.Ordering.{nat_cmp, ordering_then}
use Rattle.std.specs.declared.cmp.Ordering.{Ordering}
use Rattle.std.specs.declared.cmp.Ordering.TheVariants.{Less, Equal, Greater}
use Rattle.std.proofs.lemmas.Bool.Decides.{Decides-eqb}
use Rattle.std.proofs.lemmas.Bool.{eqb-true, and_right}
use Rattle.std.proofs.lemmas.Cmp.{tied_itself, nat_cmp_total}
use Rattle.std.proofs.lemmas.List.Sums.{sum_by-cons}
use Rattle.htl_event.specs.Events.{Event}
use Rattle.htl_event.specs.declared.kind.Kind.{Kind}
use Rattle.htl_event.specs.declared.kind.Kind.TheVariants.{BadRef}
use Rattle.htl_event.specs.declared.slot.Slot.{Slot}
use Rattle.htl_event.specs.declared.slot.Slot.TheVariants.{Tagged, Handles, Bad}
use Rattle.htl_event.specs.declared.slot.Sign.TheVariants.{Minus}
use Rattle.htl_event.specs.declared.slot.Count.{Count}
use Rattle.htl_event.specs.Slots.{is_counted, is_slot, slot_by_kind}
use Rattle.htl_event.specs.Stacks.{stack_cmp}
use Rattle.htl_event.specs.Members.{Lists}
use Rattle.htl_event.specs.Tallies.{times, has_stack, tally, IsPositive, ByHandleAndStack, IsBad}
use Rattle.htl_tree.specs.declared.slots.Slots.TheVariants.{BadOf}
use Rattle.htl_answers.specs.Bad.{bad_row}
use Rattle.htl_answers.specs.RowOrder.{row_cmp}
use Rattle.htl_answers.specs.Rows.{ByKey}
use Rattle.htl_answers.proofs.FilterMaps.{Contains-filter_map, Contains-from_filter_map, IsRising-filter_map}
use Rattle.htl_answers.proofs.SlotLists.{IsCount}

-- ---- a row

-- the bad reference row of a slot's row, if that is one of the process
abbrev pub row_of : ℕ → (Slot × List ℕ) × Count → Option (ℕ × List ℕ × ℕ)
row_of process row = bad_row process row.0.0 row.0.1 row.1

record IsRowOf (process : ℕ) (slot : Slot) (stack : List ℕ) (count : Count) (row : ℕ × List ℕ × ℕ) : Type 0 where
  slot_is : slot ≡ Bad process row.0
  stack_is : stack ≡ row.1
  count_is : row.2 ≡ count.plus

row_is : (process : ℕ) (slot : Slot) (stack : List ℕ) (count : Count) (row : ℕ × List ℕ × ℕ)
    → bad_row process slot stack count ≡ Some row → IsRowOf process slot stack count row
row_is process (Bad its handle) stack count row e = go (its == process) refl e
  where
    go : (b : Bool) → its == process ≡ b → cond b (Some (handle, stack, count.plus)) None ≡ Some row
        → IsRowOf process (Bad its handle) stack count row
    go true same e =
        let handles : handle ≡ row.0 = cc in
        let stacks : stack ≡ row.1 = cc in
        let numbers : count.plus ≡ row.2 = cc in
        record {
          slot_is = ap (λ (p : ℕ). Bad p handle) (eqb-true its process same) ∙ ap (λ (h : ℕ). Bad process h) handles;
          stack_is = stacks;
          count_is = sym numbers;
        }
    go false same e = absurd cc
row_is process (Handles p) stack count row e = absurd cc
row_is process (Tagged object tag) stack count row e = absurd cc

row_at : (process : ℕ) (row : ℕ × List ℕ × ℕ) (count : Count) → count.plus ≡ row.2
    → bad_row process (Bad process row.0) row.1 count ≡ Some row
row_at process row count is = rw ((Decides-eqb process process).1 refl) (ap (λ (n : ℕ). Some (row.0, row.1, n)) is)

abbrev with_stack : List ℕ → Count → ℕ → ℕ × List ℕ × ℕ
with_stack stack count handle = (handle, stack, count.plus)

-- a slot with a handle has a row
pub some_row : (stack : List ℕ) (count : Count) (o : Option ℕ) (handle : ℕ) → o ≡ Some handle
    → option_map (with_stack stack count) o ≡ Some (handle, stack, count.plus)
some_row stack count o handle is = ap (option_map (with_stack stack count)) is

-- and one without has none
pub no_row : (stack : List ℕ) (count : Count) (o : Option ℕ) → ((handle : ℕ) → o ≡ Some handle → ⊥) → (row : ℕ × List ℕ × ℕ)
    → option_map (with_stack stack count) o ≡ Some row → ⊥
no_row stack count None none row e = cc
no_row stack count (Some handle) none row e = none handle refl

-- ---- the answer

no_minus : (events : List Event) (process handle : ℕ) (passes : Event → Bool) → times passes events (Bad process handle) Minus ≡ 0
no_minus [] process handle passes = refl
no_minus (e ∷ es) process handle passes =
    let rest = no_minus es process handle passes in
    let none : is_counted (Bad process handle) Minus e ≡ false = never e.kind in
    let split = sum_by-cons (λ x. cond (is_counted (Bad process handle) Minus x && passes x) 1 0) e es in
    let zero : weight (is_counted (Bad process handle) Minus e && passes e) ≡ 0 = ap (λ (b : Bool). weight (b && passes e)) none in
    omega (arith, rest, split, zero)
  where
    weight : Bool → ℕ
    weight b = cond b 1 0

    never : (kind : Kind) → is_slot (Bad process handle) Minus (slot_by_kind kind e) ≡ false
    never BadRef = and_right _ _ refl
    never kind = refl

module _ (events : List Event) (process : ℕ) (counts : List ((Slot × List ℕ) × Count))
    (listed : Lists (ByKey row_cmp) (IsCount (BadOf process) events) counts) where
  abbrev IsRow : ℕ × List ℕ × ℕ → Type 0
  IsRow row = (row.2 ≡ (tally events (Bad process row.0) row.1).plus) × (0 < row.2)

  is_row : (row : ℕ × List ℕ × ℕ) → Contains (filter_map (row_of process) counts) row → IsRow row
  is_row row h =
      let from = Contains-from_filter_map (row_of process) counts row h in
      let at = row_is process from.0.0.0 from.0.0.1 from.0.1 row from.2 in
      let count = (listed.members from.0).0 from.1 in
      let whole : from.0.1 ≡ tally events (Bad process row.0) row.1 = count.0 ∙ ap (λ s. tally events s from.0.0.1) at.slot_is
      ∙ ap (tally events (Bad process row.0)) at.stack_is in
      let is : row.2 ≡ (tally events (Bad process row.0) row.1).plus = at.count_is ∙ ap (λ (n : Count). n.plus) whole in
      let some : IsPositive (tally events (Bad process row.0) row.1) = subst IsPositive whole count.1 in
      let none = no_minus events process row.0 (has_stack row.1) in
      (is, omega (arith, is, some, none))

  among_row : (row : ℕ × List ℕ × ℕ) → IsRow row → Contains (filter_map (row_of process) counts) row
  among_row row h =
      let slot = Bad process row.0 in
      let count = tally events slot row.1 in
      let is = h.0 in
      let above = h.1 in
      let some : IsPositive count = omega (arith, is, above) in
      Contains-filter_map (row_of process) counts ((slot, row.1), count) row
      ((listed.members ((slot, row.1), count)).1 (refl, some, (Decides-eqb process process).1 refl))
      (row_at process row count (sym is))

  rows_rise : (a b : (Slot × List ℕ) × Count) (x y : ℕ × List ℕ × ℕ) → ByKey row_cmp a b → row_of process a ≡ Some x
      → row_of process b ≡ Some y → ByHandleAndStack x y
  rows_rise a b x y less at_a at_b =
      let one = row_is process a.0.0 a.0.1 a.1 x at_a in
      let two = row_is process b.0.0 b.0.1 b.1 y at_b in
      let both : ordering_then (ordering_then (nat_cmp process process) (ordering_then (nat_cmp x.0 y.0) Equal)) (stack_cmp x.1 y.1) ≡ Less =
      rw (one.slot_is, one.stack_is, two.slot_is, two.stack_is) at less in
      let own = tied_itself nat_cmp_total process in
      let plain : ordering_then (ordering_then (nat_cmp x.0 y.0) Equal) (stack_cmp x.1 y.1) ≡ Less = rw own at both in
      sym (ap (λ r. ordering_then r (stack_cmp x.1 y.1)) (then_nothing (nat_cmp x.0 y.0))) ∙ plain
    where
      then_nothing : (r : Ordering) → ordering_then r Equal ≡ r
      then_nothing Less = refl
      then_nothing Equal = refl
      then_nothing Greater = refl

  -- the rows that are of the process's bad references are its bad references, by handle and stack
  pub bad_listed : IsBad events process (filter_map (row_of process) counts)
  bad_listed = record {
    rising = IsRising-filter_map (ByKey row_cmp) ByHandleAndStack (row_of process) rows_rise counts listed.rising;
    members = λ row. (is_row row, among_row row);
  }
