-- The order of rows by slot and then by stack: what ties is equal.
use Rattle.std.specs.Prelude.{◌≡◌, List, ℕ}
use Rattle.std.specs.Ordering.{ordering_then, is_eq}
use Rattle.std.specs.Cmp.{unsigned_Decides}
use Rattle.std.specs.Cmp.Lexicographic.{pointwise_decides}
use Rattle.std.specs.declared.cmp.Ordering.{Ordering}
use Rattle.std.specs.declared.cmp.Ordering.TheVariants.{Less, Equal, Greater}
use Rattle.std.proofs.Common.{refl, ap, ◌∙◌}
use Rattle.htl_event.specs.declared.slot.Slot.{Slot}
use Rattle.htl_event.specs.SlotOrder.{slot_cmp}
use Rattle.htl_event.specs.OrderLaws.{slot_same, stack_ties}
use Rattle.htl_event.specs.Stacks.{stack_cmp}

-- by slot and then by stack
abbrev pub row_cmp : Slot × List ℕ → Slot × List ℕ → Ordering
row_cmp x y = ordering_then (slot_cmp x.0 y.0) (stack_cmp x.1 y.1)

pub both_tied : (r s : Ordering) → ordering_then r s ≡ Equal → (r ≡ Equal) × (s ≡ Equal)
both_tied Less s e = cc
both_tied Equal s e = (refl, e)
both_tied Greater s e = cc

pub stack_same : (a b : List ℕ) → stack_cmp a b ≡ Equal → a ≡ b
stack_same a b e = (pointwise_decides unsigned_Decides a b).0 (stack_ties a b ∙ ap is_eq e)

same_pair : (x y : Slot × List ℕ) → x.0 ≡ y.0 → x.1 ≡ y.1 → x ≡ y
same_pair x y e f = λ i. (e i, f i)

pub row_same : (x y : Slot × List ℕ) → row_cmp x y ≡ Equal → x ≡ y
row_same x y e =
    let tied = both_tied (slot_cmp x.0 y.0) (stack_cmp x.1 y.1) e in
    same_pair x y (slot_same x.0 y.0 tied.0) (stack_same x.1 y.1 tied.1)
