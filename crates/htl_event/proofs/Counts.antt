-- A slot's count doesn't depend on the order of the events, and over two lists put together it is the sum.
use Rattle.std.proofs.Common.{◌≡◌, ◌+◌, Bool, true, cond, List, ◌++◌, refl, sym, ap, ◌∙◌, ◌&&◌, nat_eq}
use Rattle.std.specs.Prelude.{count_by, ◌↔◌}
use Rattle.std.specs.List.{starts_with}
use Rattle.std.specs.List.Sorted.{IsPermutation}
use Rattle.std.proofs.lemmas.List.Sums.{sum_by-append}
use Rattle.std.proofs.lemmas.List.Sorted.{sum_by-IsPermutation}
use Rattle.htl_event.specs.Events.{Event}
use Rattle.htl_event.specs.declared.slot.Slot.{Slot}
use Rattle.htl_event.specs.declared.slot.Slot.TheVariants.{Tagged, Bad}
use Rattle.htl_event.specs.declared.slot.Sign.{Sign}
use Rattle.htl_event.specs.declared.slot.Sign.TheVariants.{Plus, Minus}
use Rattle.htl_event.specs.declared.slot.Count.{Count}
use Rattle.htl_event.specs.Slots.{is_counted}
use Rattle.htl_event.specs.Stacks.{outer}
use Rattle.htl_event.specs.Tallies.{plus_count, times, count_where, has_stack, tally}
use Rattle.htl_event.specs.Tallies.{balance, IsPositive, ByTag, ByStack, ByHandleAndStack}
use Rattle.htl_event.specs.Laws.{CountsAreDetermined, CountsAddUp}
use Rattle.htl_event.proofs.Members.{Lists-same}
use Rattle.htl_event.proofs.Orders.{ByTag-strict, ByStack-strict, ByHandleAndStack-strict}

-- the elements of two lists put together that pass a test are as many as those of each list in sum
pub count_by-append : {X : Type 0} (p : X → Bool) (xs ys : List X) → count_by p (xs ++ ys) ≡ count_by p xs + count_by p ys
count_by-append p xs ys = sum_by-append (λ x. cond (p x) 1 0) xs ys

-- a slot's count over two lists put together is the sum of its counts over each
pub count_where-append : (passes : Event → Bool) (xs ys : List Event) (slot : Slot)
    → count_where passes (xs ++ ys) slot ≡ plus_count (count_where passes xs slot) (count_where passes ys slot)
count_where-append passes xs ys slot =
    let side : (sign : Sign) → times passes (xs ++ ys) slot sign ≡ times passes xs slot sign + times passes ys slot sign =
    (λ sign. count_by-append (λ e. is_counted slot sign e && passes e) xs ys) in
    rw (side Plus, side Minus) refl

-- tallies, prefix tallies and balances over two lists put together are sums
pub counts_add_up : (xs ys : List Event) → CountsAddUp xs ys
counts_add_up xs ys = record {
  tally = λ slot stack. count_where-append (has_stack stack) xs ys slot;
  under = λ path slot. count_where-append (λ e. starts_with nat_eq (outer e.stack) path) xs ys slot;
  balance = λ object tag. count_where-append (λ e. true) xs ys (Tagged object tag);
}

-- ---- the same events at other places

-- as many elements pass a test in a list as in the same list in another order
pub count_by-IsPermutation : {X : Type 0} (p : X → Bool) (xs ys : List X) → IsPermutation xs ys → count_by p xs ≡ count_by p ys
count_by-IsPermutation p xs ys moved = sym (sum_by-IsPermutation (λ x. cond (p x) 1 0) xs ys moved)

-- a slot has the same count over a list and over the same list in another order
pub count_where-IsPermutation : (passes : Event → Bool) (xs ys : List Event) → IsPermutation xs ys → (slot : Slot)
    → count_where passes xs slot ≡ count_where passes ys slot
count_where-IsPermutation passes xs ys moved slot =
    let side : (sign : Sign) → times passes xs slot sign ≡ times passes ys slot sign =
    (λ sign. count_by-IsPermutation (λ e. is_counted slot sign e && passes e) xs ys moved) in
    rw (side Plus, side Minus) refl

-- rows that give each key the same value are the same rows
pub same_rows : {K V : Type 0} (f g : K → V) (Q : V → Type 0) → ((k : K) → f k ≡ g k) → (row : K × V)
    → ((row.1 ≡ f row.0) × Q row.1) ↔ ((row.1 ≡ g row.0) × Q row.1)
same_rows f g Q same row = (λ h. (h.0 ∙ same row.0, h.1), λ h. (h.0 ∙ sym (same row.0), h.1))

-- over a list and the same list in another order, each count and each answer about counts is one
pub counts_are_determined : (xs ys : List Event) → IsPermutation xs ys → CountsAreDetermined xs ys
counts_are_determined xs ys moved = record {
  counts = λ passes slot. count_where-IsPermutation passes xs ys moved slot;
  tags = λ object a b. Lists-same ByTag ByTag-strict _ _ a b
      (same_rows (balance xs object) (balance ys object) IsPositive
      (λ tag. count_where-IsPermutation (λ e. true) xs ys moved (Tagged object tag)));
  stacks = λ object tag a b. Lists-same ByStack ByStack-strict _ _ a b
      (same_rows (tally xs (Tagged object tag)) (tally ys (Tagged object tag)) IsPositive
      (λ stack. count_where-IsPermutation (has_stack stack) xs ys moved (Tagged object tag)));
  bad = λ process a b. Lists-same ByHandleAndStack ByHandleAndStack-strict _ _ a b (λ row.
      let same = count_where-IsPermutation (has_stack row.1) xs ys moved (Bad process row.0) in
      (λ h. (h.0 ∙ ap (λ (c : Count). c.plus) same, h.1), λ h. (h.0 ∙ ap (λ (c : Count). c.plus) (sym same), h.1)));
}
