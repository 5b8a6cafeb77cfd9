-- The slots of the root in order are those of the tree.
use Rattle.std.proofs.Common.{◌≡◌, List, [], ◌++◌, sym, ap, ◌∙◌, subst}
use Rattle.std.specs.Prelude.{Contains, ◌↔◌}
use Rattle.htl_event.specs.declared.slot.Slot.{Slot}
use Rattle.htl_tree.specs.Trees.{Tree, IsTree, ListsSlots}
use Rattle.htl_tree.specs.Nodes.{top, inside, frames, tree_of, rows, slots_of}
use Rattle.htl_tree.proofs.Roots.{root_is_tree}
use Rattle.htl_tree.proofs.SlotRows.{lists_slots, no_slots, slots_tree, slots_of-inside}
use Rattle.htl_tree.proofs.root.list_root_slots.Goals as goal

pub returns-in-None : goal.returns-in-None
returns-in-None g c =
    subst (λ (l : List Slot). ListsSlots (tree_of c.args.root.now) l) (sym c.new-slots.ensures.items)
    (subst (λ (t : Tree). ListsSlots t []) (ap (λ r. tree_of r) (sym c.in-None.is)) no_slots)

pub returns-in_ok-list_slots-in-Some : goal.returns-in_ok-list_slots-in-Some
returns-in_ok-list_slots-in-Some g c =
    let n = c.in-Some.root in
    let t : IsTree (tree_of c.args.root.now) = root_is_tree c.args.root.now c.requires in
    let items : c.list_slots.new.into.items ≡ slots_of (tree_of c.args.root.now) =
    c.in_ok-list_slots-in-Some.ensures ∙ ap (λ l. l ++ slots_of (rows (inside n))) c.new-slots.ensures.items
    ∙ sym (slots_tree (top n) ∙ slots_of-inside (frames n) n)
    ∙ ap (λ r. slots_of (tree_of r)) (sym c.in-Some.is) in
    lists_slots (tree_of c.args.root.now) t c.order_slots.new.slots.items c.order_slots.ensures.rising
    (λ s. subst (λ (l : List Slot). Contains c.order_slots.new.slots.items s ↔ Contains l s) items (c.order_slots.ensures.members s))
