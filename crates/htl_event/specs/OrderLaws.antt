-- The laws that the comparisons of `Stack` and `Slot` owe: both orders are total, and what ties is equal.
use Rattle.std.specs.Prelude.{◌≡◌, ◌==◌, ◌&&◌, ℕ, List, reverse, nat_eq, Bool, false, true}
use Rattle.std.specs.Bool.{Decides}
use Rattle.std.specs.Ordering.{nat_cmp, eq_by_cmp, is_eq, as_partial_cmp}
use Rattle.std.specs.Cmp.{IsTotalOrder, IsPartialOrder, on_total, partial_order_from_total}
use Rattle.std.specs.Cmp.{partial_order_from_own_ties, unsigned_Decides, unsigned_ties}
use Rattle.std.specs.Cmp.Lexicographic.{nat_list_cmp_total, lists_ties, texts_ties, pointwise, pointwise_decides}
use Rattle.std.specs.declared.cmp.Ordering.TheVariants.{Equal}
use Rattle.std.proofs.Common.{refl, sym, ap, ◌∙◌}
use Rattle.std.proofs.lemmas.List.{reverse-reverse}
use Rattle.std.proofs.lemmas.Bool.Decides.{same_from_decides}
use Rattle.htl_event.specs.declared.slot.Slot.{Slot}
use Rattle.htl_event.specs.declared.slot.Slot.TheVariants.{Tagged, Handles, Bad}
use Rattle.htl_event.specs.contracts.slot.SlotPartialEq.TheImpl.{eq-value}
use Rattle.htl_event.specs.Stacks.{outer, stack_cmp}
use Rattle.htl_event.specs.SlotOrder.{slot_key, slot_cmp}

-- ---- stacks

pub stack_total : IsTotalOrder stack_cmp
stack_total = on_total outer nat_list_cmp_total

same_reversed : (a b : List ℕ) → reverse a ≡ reverse b → a ≡ b
same_reversed a b e = sym (reverse-reverse a) ∙ ap reverse e ∙ reverse-reverse b

decides_reversed : (a b : List ℕ) → Decides (pointwise nat_eq (reverse a) (reverse b)) (a ≡ b)
decides_reversed a b =
    let d = pointwise_decides unsigned_Decides (reverse a) (reverse b) in
    (λ t. same_reversed a b (d.0 t), λ e. d.1 (ap reverse e))

-- stacks are tied exactly where they are equal
pub stack_ties : (a b : List ℕ) → pointwise nat_eq a b ≡ eq_by_cmp stack_cmp a b
stack_ties a b =
    same_from_decides _ _ (pointwise_decides unsigned_Decides a b) (decides_reversed a b)
    ∙ lists_ties nat_cmp unsigned_ties (reverse a) (reverse b)

pub stack_order : IsPartialOrder (pointwise nat_eq) (as_partial_cmp stack_cmp)
stack_order = partial_order_from_own_ties (partial_order_from_total stack_total) stack_ties

-- ---- slots

pub slot_total : IsTotalOrder slot_cmp
slot_total = on_total slot_key nat_list_cmp_total

and_true : (b : Bool) → b ≡ (b && true)
and_true true = refl
and_true false = refl

same_keys : (s t : Slot) → eq-value.it s t ≡ pointwise nat_eq (slot_key s) (slot_key t)
same_keys (Tagged a s) (Tagged b t) = refl
same_keys (Handles a) (Handles b) = and_true (a == b)
same_keys (Bad a g) (Bad b h) = ap (λ (x : Bool). a == b && x) (and_true (g == h))
same_keys (Tagged a s) (Handles b) = refl
same_keys (Tagged a s) (Bad b h) = refl
same_keys (Handles a) (Tagged b t) = refl
same_keys (Handles a) (Bad b h) = refl
same_keys (Bad a g) (Tagged b t) = refl
same_keys (Bad a g) (Handles b) = refl

-- slots compare as equal exactly where they tie
pub slot_ties : (s t : Slot) → eq-value.it s t ≡ eq_by_cmp slot_cmp s t
slot_ties s t = same_keys s t ∙ texts_ties (slot_key s) (slot_key t)

pub slot_order : IsPartialOrder eq-value.it (as_partial_cmp slot_cmp)
slot_order = partial_order_from_own_ties (partial_order_from_total slot_total) slot_ties

key_determines : (s t : Slot) → slot_key s ≡ slot_key t → s ≡ t
key_determines (Tagged a s) (Tagged b t) e = cc
key_determines (Handles a) (Handles b) e = cc
key_determines (Bad a g) (Bad b h) e = cc
key_determines (Tagged a s) (Handles b) e = cc
key_determines (Tagged a s) (Bad b h) e = cc
key_determines (Handles a) (Tagged b t) e = cc
key_determines (Handles a) (Bad b h) e = cc
key_determines (Bad a g) (Tagged b t) e = cc
key_determines (Bad a g) (Handles b) e = cc

-- slots that tie are equal
pub slot_same : (s t : Slot) → slot_cmp s t ≡ Equal → s ≡ t
slot_same s t e =
    key_determines s t
    ((pointwise_decides unsigned_Decides (slot_key s) (slot_key t)).0 (texts_ties (slot_key s) (slot_key t) ∙ ap is_eq e))
