-- What the root lists for the slots are the tree's rows of these slots.
use Rattle.std.proofs.Common.{ℕ, List, sym, subst}
use Rattle.std.proofs.lemmas.Result.{IfOk-weaker}
use Rattle.htl_event.specs.declared.slot.Slot.{Slot}
use Rattle.htl_event.specs.declared.slot.Count.{Count}
use Rattle.htl_tree.specs.Trees.{Tree, ListsRowsOf}
use Rattle.htl_tree.specs.HasSlot.{has_slot}
use Rattle.htl_tree.specs.Nodes.{tree_of, picked}
use Rattle.htl_tree.proofs.Roots.{root_is_tree}
use Rattle.htl_tree.proofs.Between.{lists_rows_of}
use Rattle.htl_tree.proofs.tree.StackTree.rows_of.Goals as goal

pub returns : goal.returns
returns g c =
    let t : Tree = tree_of c.self.inside.root in
    let p = has_slot c.args.slots in
    let lists : ListsRowsOf c.args.self.now c.args.slots (picked p t) = subst (λ (u : Tree). ListsRowsOf u c.args.slots (picked p t))
    c.self.view_is (lists_rows_of t (root_is_tree c.self.inside.root c.self.invariant.normal) c.args.slots) in
    IfOk-weaker c.list_root_rows.result _ _
    (λ rows is. subst (λ (l : List ((Slot × List ℕ) × Count)). ListsRowsOf c.args.self.now c.args.slots l) (sym is) lists)
    c.list_root_rows.ensures
