-- The tree's rows of one slot, without the slot, are the slot's rows.
use Rattle.std.proofs.Common.{◌≡◌, ℕ, List, map, sym, ap, ◌∙◌, subst}
use Rattle.std.proofs.lemmas.Result.{IfOk-weaker}
use Rattle.htl_event.specs.declared.slot.Slot.{Slot}
use Rattle.htl_event.specs.declared.slot.Count.{Count}
use Rattle.htl_tree.specs.Trees.{Tree, ListsRows}
use Rattle.htl_tree.specs.Nodes.{tree_of}
use Rattle.htl_tree.proofs.Roots.{root_is_tree}
use Rattle.htl_tree.proofs.SlotRows.{listed, lists_rows}
use Rattle.htl_tree.proofs.Between.{one_slot}
use Rattle.htl_tree.proofs.tree.StackTree.rows.Goals as goal

pub returns : goal.returns
returns g c =
    let t : Tree = tree_of c.self.inside.root in
    let s = c.args.slot in
    let lists : ListsRows c.args.self.now s (listed s t) = subst (λ (u : Tree). ListsRows u s (listed s t)) c.self.view_is
    (lists_rows s t (root_is_tree c.self.inside.root c.self.invariant.normal)) in
    IfOk-weaker c.without_slot.result _ _ (λ stacks is.
    let all : stacks.items ≡ listed s t = is
    ∙ ap (map (λ (row : (Slot × List ℕ) × Count). (row.0.1, row.1))) (c.deref.ensures.value ∙ c.in_ok-rows.ensures) ∙ one_slot s t in
    subst (λ (l : List (List ℕ × Count)). ListsRows c.args.self.now s l) (sym all) lists) c.without_slot.ensures
