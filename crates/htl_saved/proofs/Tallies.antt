-- All rows that a tree lists are its tally, with the stack before the slot.
use Rattle.std.proofs.Common.{◌≡◌, ℕ, List, [], ◌∷◌, map, refl, ◌∙◌, ap}
use Rattle.std.specs.Cmp.{on_total}
use Rattle.htl_event.specs.declared.slot.Slot.{Slot}
use Rattle.htl_event.specs.declared.slot.Count.{Count}
use Rattle.htl_event.specs.Members.{IsStrictOrder}
use Rattle.htl_event.proofs.Members.{Lists-same}
use Rattle.htl_event.proofs.Orders.{strict_from_total}
use Rattle.htl_tree.specs.Trees.{Tree, IsTree, ByStackAndSlot, ListsRowsOf, by_stack}
use Rattle.htl_tree.specs.HasSlot.{has_slot}
use Rattle.htl_tree.specs.Nodes.{picked}
use Rattle.htl_tree.specs.declared.slots.Slots.TheVariants.{All}
use Rattle.htl_tree.proofs.Between.{lists_rows_of}
use Rattle.htl_tree.proofs.TreesAsLists.{key_total}

-- a count as a tree lists it, and as its tally has it
abbrev pub Listed : Type 0
Listed = (Slot × List ℕ) × Count

abbrev pub Counted : Type 0
Counted = (List ℕ × Slot) × Count

by_stack_and_slot : IsStrictOrder (ByStackAndSlot {X = Count})
by_stack_and_slot = strict_from_total (on_total (λ (row : Listed). (row.0.1, row.0.0)) key_total)

-- all rows that are picked of a tree, with the stack before the slot, are the tree
pub all_picked : (t : Tree) → map by_stack (picked (has_slot All) t) ≡ t
all_picked [] = refl
all_picked (row ∷ t) = ap (λ (rows : Tree). row ∷ rows) (all_picked t)

-- the rows that a tree lists of all slots are its tally
pub rows_are_tally : (t : Tree) → IsTree t → (rows : List Listed) → ListsRowsOf t All rows → map by_stack rows ≡ t
rows_are_tally t is rows lists =
    ap (map by_stack) (Lists-same ByStackAndSlot by_stack_and_slot _ _ rows (picked (has_slot All) t) (λ row. ((λ h. h), (λ h. h))) lists
    (lists_rows_of t is All)) ∙ all_picked t

-- one map after another is a map
pub map_after : {X Y Z : Type 0} (f : Y → Z) (g : X → Y) (xs : List X) → map (λ x. f (g x)) xs ≡ map f (map g xs)
map_after f g [] = refl
map_after f g (x ∷ xs) = ap (λ zs. f (g x) ∷ zs) (map_after f g xs)
