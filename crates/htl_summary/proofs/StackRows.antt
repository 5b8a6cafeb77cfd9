-- Slots with one stack say what the events with it say of slots. So the rows of a tag's stacks are those of the definition.
use Rattle.std.proofs.Common.{◌≡◌, ℕ, Bool, true, false, cond, ◌&&◌, List, [], ◌∷◌, Option, Some, None, refl, sym, ap, subst, ◌∙◌, nat_eq, inl, inr}
use Rattle.std.proofs.Common.{arith, ◌<◌, ◌≤◌, length}
use Rattle.std.specs.Prelude.{Contains, count_by, filter}
use Rattle.std.specs.List.{filter_map, sum_by}
use Rattle.std.specs.Ordering.{ordering_then, is_eq}
use Rattle.std.specs.Cmp.{unsigned_Decides}
use Rattle.std.specs.Cmp.Lexicographic.{pointwise, pointwise_decides}
use Rattle.std.specs.declared.cmp.Ordering.TheVariants.{Less}
use Rattle.std.proofs.lemmas.Bool.{cases_Bool}
use Rattle.std.proofs.lemmas.Cmp.{tied_itself}
use Rattle.std.proofs.lemmas.List.Sums.{sum_by-cons}
use Rattle.htl_event.specs.Events.{Event}
use Rattle.htl_event.specs.declared.slot.Slot.{Slot}
use Rattle.htl_event.specs.declared.slot.Sign.{Sign}
use Rattle.htl_event.specs.declared.slot.Sign.TheVariants.{Plus, Minus}
use Rattle.htl_event.specs.declared.slot.Count.{Count}
use Rattle.htl_event.specs.Slots.{is_counted}
use Rattle.htl_event.specs.SlotOrder.{slot_cmp}
use Rattle.htl_event.specs.OrderLaws.{stack_total, stack_ties}
use Rattle.htl_event.specs.Stacks.{stack_cmp}
use Rattle.htl_event.specs.Tallies.{times, has_stack, tally, IsPositive}
use Rattle.htl_event.proofs.Members.{filter-pass, filter-skip}
use Rattle.htl_event.specs.Balances.{is_ref, is_deref, references_where, has_tag, Balance, HaveObjects, IsStackBalance, AreTagStacks}
use Rattle.htl_tree.specs.Trees.{BySlot, ByStackAndSlot, Tree, HasTally, ListsRowsOf}
use Rattle.htl_answers.specs.Sums.{times_of, ListsSlotSums}
use Rattle.htl_summary.specs.Balancing.{ListsStackSums, is_tagged, stack_balance, at_key, AreAdded}
use Rattle.htl_answers.proofs.FilterMaps.{Contains-filter_map, Contains-from_filter_map, IsRising-filter_map}
use Rattle.htl_answers.proofs.NumberSums.{sum_same, amount, sum_filter_map}
use Rattle.std.proofs.lemmas.Bool.Decides.{same_from_decides}
use Rattle.htl_event.specs.declared.slot.Slot.TheVariants.{Tagged}
use Rattle.htl_event.specs.Members.{Lists}
use Rattle.htl_tree.specs.declared.slots.Slots.TheVariants.{All}
use Rattle.htl_answers.specs.RowOrder.{stack_same}
use Rattle.std.proofs.lemmas.Option.{same_Some}
use Rattle.htl_summary.proofs.AddedBalances.{given_positive, key_has_row, minus_of, objects_of, plus_of, row_is}
use Rattle.htl_summary.proofs.TagRows.{one_number, of_tag, refs_are, derefs_are, objects, objects_are, number_of_objects}

abbrev pub StackSum : Type 0
StackSum = (Slot × List ℕ) × Count

-- ---- counts of events that pass another test too

and_assoc : (a b c : Bool) → ((a && b) && c) ≡ (a && (b && c))
and_assoc true b c = refl
and_assoc false b c = refl

and_skips : (a b : Bool) → ((a && true) && b) ≡ (a && b)
and_skips true b = refl
and_skips false b = refl

-- those that pass both tests are as many as pass one of those that pass the other
count_filter : {X : Type 0} (q p : X → Bool) (xs : List X) → count_by (λ x. q x && p x) xs ≡ count_by q (filter p xs)
count_filter q p [] = refl
count_filter {X} q p (x ∷ xs) =
    let rest = count_filter q p xs in
    let all = sum_by-cons (λ (y : X). cond (q y && p y) 1 0) x xs in
    elim (cases_Bool (p x)) [
      | inl passes ↦
          let one : ◌≡◌ {A = ℕ} (cond (q x && p x) 1 0) (cond (q x) 1 0) =
          ap (λ (b : Bool). cond {A = ℕ} (q x && b) 1 0) passes ∙ and_one (q x) in
          let kept : count_by q (filter p (x ∷ xs)) ≡ count_by q (x ∷ filter p xs) = ap (count_by q) (filter-pass p x xs passes) in
          let whole = sum_by-cons (λ (y : X). cond (q y) 1 0) x (filter p xs) in
          omega (arith, rest, all, one, kept, whole)
      | inr fails ↦
          let none : ◌≡◌ {A = ℕ} (cond (q x && p x) 1 0) 0 = ap (λ (b : Bool). cond {A = ℕ} (q x && b) 1 0) fails ∙ and_none (q x) in
          let left : count_by q (filter p (x ∷ xs)) ≡ count_by q (filter p xs) = ap (count_by q) (filter-skip p x xs fails) in
          omega (arith, rest, all, none, left)
    ]
  where
    and_one : (a : Bool) → ◌≡◌ {A = ℕ} (cond (a && true) 1 0) (cond a 1 0)
    and_one true = refl
    and_one false = refl

    and_none : (a : Bool) → ◌≡◌ {A = ℕ} (cond (a && false) 1 0) 0
    and_none true = refl
    and_none false = refl

-- tests that agree are passed by as many
count_alike : {X : Type 0} (p q : X → Bool) (xs : List X) → ((x : X) → p x ≡ q x) → count_by p xs ≡ count_by q xs
count_alike {X} p q xs same =
    sum_same (λ (x : X). cond (p x) 1 0) (λ (x : X). cond (q x) 1 0) xs (λ x h. ap (λ (b : Bool). cond {A = ℕ} b 1 0) (same x))

-- ---- sums with the stack

module _ (stack : List ℕ) where
  -- the sum without its stack, where that is the stack
  abbrev pub own_sum : StackSum → Option (Slot × Count)
  own_sum sum = cond (pointwise nat_eq sum.0.1 stack) (Some (sum.0.0, sum.1)) None

  record IsOwn (sum : StackSum) (own : Slot × Count) : Type 0 where
    stack_is : sum.0.1 ≡ stack
    own_is : (sum.0.0, sum.1) ≡ own

  own_is : (sum : StackSum) (own : Slot × Count) → own_sum sum ≡ Some own → IsOwn sum own
  own_is sum own e = go (pointwise nat_eq sum.0.1 stack) refl e
    where
      go : (b : Bool) → pointwise nat_eq sum.0.1 stack ≡ b → cond b (Some (sum.0.0, sum.1)) None ≡ Some own → IsOwn sum own
      go true same e = record { stack_is = (pointwise_decides unsigned_Decides sum.0.1 stack).0 same; own_is = cc }
      go false same e = absurd cc

-- ---- events with the stack

module _ (events : List Event) (stack : List ℕ) where
  -- the events with the stack
  abbrev pub with_stack : List Event
  with_stack = filter (has_stack stack) events

  times_with : (slot : Slot) (sign : Sign) → times (has_stack stack) events slot sign ≡ times (λ e. true) with_stack slot sign
  times_with slot sign =
      sym (count_alike (λ (e : Event). (is_counted slot sign e && true) && has_stack stack e) (λ (e : Event). is_counted slot sign e && has_stack stack e)
      events (λ e. and_skips (is_counted slot sign e) (has_stack stack e)))
      ∙ count_filter (λ (e : Event). is_counted slot sign e && true) (has_stack stack) events

  -- a slot came as often with the stack as among the events with the stack
  pub tally_with : (slot : Slot) → tally events slot stack ≡ times_of with_stack slot
  tally_with slot =
      let plus = times_with slot Plus in
      let minus = times_with slot Minus in
      λ i. record { plus = plus i; minus = minus i }

  -- references under a tag with the stack are those among the events with the stack
  pub references_with : (tag : List ℕ) → references_where (λ e. has_tag tag e && has_stack stack e) events ≡ references_where (has_tag tag) with_stack
  references_with tag =
      let refs = sym (count_alike (λ (e : Event). (is_ref e.kind && has_tag tag e) && has_stack stack e)
      (λ (e : Event). is_ref e.kind && (has_tag tag e && has_stack stack e)) events
      (λ e. and_assoc (is_ref e.kind) (has_tag tag e) (has_stack stack e)))
      ∙ count_filter (λ (e : Event). is_ref e.kind && has_tag tag e) (has_stack stack) events in
      let derefs = sym (count_alike (λ (e : Event). (is_deref e.kind && has_tag tag e) && has_stack stack e)
      (λ (e : Event). is_deref e.kind && (has_tag tag e && has_stack stack e)) events
      (λ e. and_assoc (is_deref e.kind) (has_tag tag e) (has_stack stack e)))
      ∙ count_filter (λ (e : Event). is_deref e.kind && has_tag tag e) (has_stack stack) events in
      λ i. record { plus = refs i; minus = derefs i }

  rise : (s t : StackSum) (x y : Slot × Count) → ByStackAndSlot s t → own_sum stack s ≡ Some x → own_sum stack t ≡ Some y → BySlot x.0 y.0
  rise s t x y less at_s at_t =
      let one = own_is stack s x at_s in
      let two = own_is stack t y at_t in
      let both : ordering_then (stack_cmp stack stack) (slot_cmp s.0.0 t.0.0) ≡ Less = rw (one.stack_is, two.stack_is) at less in
      let slots : slot_cmp s.0.0 t.0.0 ≡ Less = rw (tied_itself stack_total stack) at both in
      subst (λ (z : Slot × Count). BySlot z.0 y.0) one.own_is (subst (λ (z : Slot × Count). BySlot s.0.0 z.0) two.own_is slots)

  module _ (sums : List StackSum) (listed : ListsStackSums events sums) where
    -- the sums of the slots with the stack are those of the events with the stack
    pub own_listed : ListsSlotSums with_stack (filter_map (own_sum stack) sums)
    own_listed = record {
      rising = IsRising-filter_map ByStackAndSlot (λ a b. BySlot a.0 b.0) (own_sum stack) rise sums listed.rising;
      members = λ own. (from own, into own);
    }
      where
        from : (own : Slot × Count) → Contains (filter_map (own_sum stack) sums) own → (own.1 ≡ times_of with_stack own.0) × IsPositive own.1
        from own h =
            let of = Contains-from_filter_map (own_sum stack) sums own h in
            let is = own_is stack of.0 own of.2 in
            let sum = (listed.members of.0).0 of.1 in
            let count : of.0.1 ≡ times_of with_stack of.0.0.0 =
            sum.0 ∙ ap (λ (s : List ℕ). tally events of.0.0.0 s) is.stack_is ∙ tally_with of.0.0.0 in
            subst (λ (z : Slot × Count). (z.1 ≡ times_of with_stack z.0) × IsPositive z.1) is.own_is (count, sum.1)

        into : (own : Slot × Count) → (own.1 ≡ times_of with_stack own.0) × IsPositive own.1 → Contains (filter_map (own_sum stack) sums) own
        into own h =
            let sum : StackSum = ((own.0, stack), own.1) in
            Contains-filter_map (own_sum stack) sums sum own ((listed.members sum).1 (h.0 ∙ sym (tally_with own.0), h.1))
            (ap (λ (b : Bool). cond b (Some own) None) ((pointwise_decides unsigned_Decides stack stack).1 refl))

-- any count passes
abbrev any : Count → Bool
any count = true

stacks_tied : (stack its : List ℕ) → is_eq (stack_cmp stack its) ≡ pointwise nat_eq its stack
stacks_tied stack its =
    sym (stack_ties stack its) ∙ same_from_decides (pointwise nat_eq stack its) (pointwise nat_eq its stack)
    (pointwise_decides unsigned_Decides stack its)
    ((λ e. sym ((pointwise_decides unsigned_Decides its stack).0 e)), λ e. (pointwise_decides unsigned_Decides its stack).1 (sym e))

-- the rows of a tree are the sums of its events
pub rows_are_sums : (tree : Tree) (rows : List StackSum) (events : List Event) → ListsRowsOf tree All rows → HasTally tree events
    → ListsStackSums events rows
rows_are_sums tree rows events listed tallied = record {
  rising = listed.rising;
  members = λ row. (
    (λ h. let is = (listed.members row).0 h in (is.0 ∙ tallied row.0.0 row.0.1, is.1)),
    λ h. (listed.members row).1 (h.0 ∙ sym (tallied row.0.0 row.0.1), h.1, refl),
  );
}

module _ (tag : List ℕ) where
  -- the balance of a sum has its count
  pub made : (sum : StackSum) (row : Balance) → stack_balance tag sum ≡ Some row → (row.count ≡ sum.1) × (row.objects ≤ 1)
  made sum row e = go (is_tagged tag sum.0.0) e
    where
      go : (b : Bool) → cond b (Some (record { by = sum.0.1; count = sum.1; objects = 1 })) None ≡ Some row → (row.count ≡ sum.1) × (row.objects ≤ 1)
      go true e =
          let is = same_Some (record { by = sum.0.1; count = sum.1; objects = 1 }) row e in
          (sym (ap (λ (r : Balance). r.count) is), subst (λ (r : Balance). r.objects ≤ 1) is (omega arith))
      go false e = absurd cc

  -- ---- numbers of a stack

  module _ (number : Balance → ℕ) (own : Count → ℕ)
      (is : (stack : List ℕ) (count : Count) → number (record { by = stack; count = count; objects = 1 }) ≡ own count) where
    share : (stack : List ℕ) (sum : StackSum)
        → amount (at_key stack_cmp stack number) (stack_balance tag sum) ≡ amount (of_tag tag own) (own_sum stack sum)
    share stack sum =
        asked (is_tagged tag sum.0.0)
        ∙ ap (λ (b : Bool). cond (is_tagged tag sum.0.0) (cond b (own sum.1) 0) 0) (stacks_tied stack sum.0.1)
        ∙ turned (is_tagged tag sum.0.0) (pointwise nat_eq sum.0.1 stack) refl
      where
        asked : (b : Bool) → amount (at_key stack_cmp stack number) (cond b (Some (record { by = sum.0.1; count = sum.1; objects = 1 })) None)
            ≡ cond b (cond (is_eq (stack_cmp stack sum.0.1)) (own sum.1) 0) 0
        asked true = ap (λ (n : ℕ). cond (is_eq (stack_cmp stack sum.0.1)) n 0) (is sum.0.1 sum.1)
        asked false = refl

        turned : (a b : Bool) → is_tagged tag sum.0.0 ≡ a
            → cond a (cond b (own sum.1) 0) 0 ≡ amount (of_tag tag own) (cond b (Some (sum.0.0, sum.1)) None)
        turned true true e = ap (λ (c : Bool). cond c (own sum.1) 0) (sym e)
        turned false true e = ap (λ (c : Bool). cond c (own sum.1) 0) (sym e)
        turned true false e = refl
        turned false false e = refl

    at_stack : (stack : List ℕ) (sums : List StackSum)
        → sum_by (at_key stack_cmp stack number) (filter_map (stack_balance tag) sums) ≡ sum_by (of_tag tag own) (filter_map (own_sum stack) sums)
    at_stack stack sums =
        sum_filter_map (at_key stack_cmp stack number) (stack_balance tag) sums
        ∙ sum_same (λ (sum : StackSum). amount (at_key stack_cmp stack number) (stack_balance tag sum))
        (λ (sum : StackSum). amount (of_tag tag own) (own_sum stack sum)) sums (λ sum h. share stack sum)
        ∙ sym (sum_filter_map (of_tag tag own) (own_sum stack) sums)

  -- ---- rows

  one_row : (events : List Event) (a b : Balance) → IsStackBalance events tag a → IsStackBalance events tag b → a.by ≡ b.by → a ≡ b
  one_row events a b p q e =
      let count : a.count ≡ b.count =
      p.used ∙ ap (λ (s : List ℕ). references_where (λ x. has_tag tag x && has_stack s x) events) e ∙ sym q.used in
      let its : HaveObjects (λ object. IsPositive (tally events (Tagged object tag) a.by)) b.objects =
      subst (λ (s : List ℕ). HaveObjects (λ object. IsPositive (tally events (Tagged object tag) s)) b.objects) (sym e) q.touched in
      let number = one_number (λ object. IsPositive (tally events (Tagged object tag) a.by)) a.objects b.objects p.touched its in
      λ i. record { by = e i; count = count i; objects = number i }

  module _ (events : List Event) (sums : List StackSum) (rows : List Balance) (listed : ListsStackSums events sums)
      (added : AreAdded stack_cmp (filter_map (stack_balance tag) sums) rows) where
    own_are : (stack : List ℕ) → ListsSlotSums (with_stack events stack) (filter_map (own_sum stack) sums)
    own_are stack = own_listed events stack sums listed

    abbrev used : List ℕ → Count
    used stack = references_where (λ e. has_tag tag e && has_stack stack e) events

    refs_at : (stack : List ℕ) → sum_by (at_key stack_cmp stack plus_of) (filter_map (stack_balance tag) sums) ≡ (used stack).plus
    refs_at stack =
        at_stack plus_of (λ count. count.plus) (λ s count. refl) stack sums
        ∙ refs_are (with_stack events stack) (filter_map (own_sum stack) sums) (own_are stack) tag
        ∙ sym (ap (λ (c : Count). c.plus) (references_with events stack tag))

    derefs_at : (stack : List ℕ) → sum_by (at_key stack_cmp stack minus_of) (filter_map (stack_balance tag) sums) ≡ (used stack).minus
    derefs_at stack =
        at_stack minus_of (λ count. count.minus) (λ s count. refl) stack sums
        ∙ derefs_are (with_stack events stack) (filter_map (own_sum stack) sums) (own_are stack) tag
        ∙ sym (ap (λ (c : Count). c.minus) (references_with events stack tag))

    -- the objects that the stack touched under the tag
    abbrev touched_by : List ℕ → List ℕ
    touched_by stack = objects (with_stack events stack) (filter_map (own_sum stack) sums) (own_are stack) tag any

    objects_at : (stack : List ℕ) → sum_by (at_key stack_cmp stack objects_of) (filter_map (stack_balance tag) sums) ≡ length (touched_by stack)
    objects_at stack =
        at_stack objects_of (λ count. 1) (λ s count. refl) stack sums
        ∙ number_of_objects (with_stack events stack) (filter_map (own_sum stack) sums) (own_are stack) tag any

    touched : (stack : List ℕ) → Lists (λ a b. a < b) (λ object. IsPositive (tally events (Tagged object tag) stack)) (touched_by stack)
    touched stack =
        let are = objects_are (with_stack events stack) (filter_map (own_sum stack) sums) (own_are stack) tag any in
        record {
          rising = are.rising;
          members = λ object. (
            λ h. subst IsPositive (sym (tally_with events stack (Tagged object tag))) ((are.members object).0 h).1,
            λ some. (are.members object).1 (refl, subst IsPositive (tally_with events stack (Tagged object tag)) some),
          );
        }

    counts : (row : Balance) → Contains (filter_map (stack_balance tag) sums) row → IsPositive row.count
    counts = given_positive (stack_balance tag) (λ (sum : StackSum). sum.1) made sums (λ sum h. ((listed.members sum).0 h).1)

    from_rows : (row : Balance) → Contains rows row → IsStackBalance events tag row
    from_rows row h =
        let is = row_is stack_total stack_same (filter_map (stack_balance tag) sums) rows added counts used (λ stack. length (touched_by stack))
        refs_at derefs_at objects_at row h in
        record { used = is.0; named = is.1; touched = (touched_by row.by, touched row.by, is.2) }

    into_rows : (row : Balance) → IsStackBalance events tag row → Contains rows row
    into_rows row is =
        let r = key_has_row stack_total stack_same (filter_map (stack_balance tag) sums) rows added counts used (λ stack. length (touched_by stack))
        refs_at derefs_at objects_at row.by (subst IsPositive is.used is.named) in
        subst (Contains rows) (one_row events r.0 row (from_rows r.0 r.1) is r.2) r.1

    -- they are the stacks of the tag
    pub are_stacks : AreTagStacks events tag rows
    are_stacks = record { rising = added.rising; members = λ row. (from_rows row, into_rows row) }
