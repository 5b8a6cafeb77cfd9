-- The counts of the slots that are asked for, in slot order, add up to the tree's sums.
use Rattle.std.proofs.Common.{◌<◌, ◌^◌, List, sym, subst, arith}
use Rattle.std.proofs.lemmas.Result.{IfOk-weaker}
use Rattle.htl_event.specs.declared.slot.Slot.{Slot}
use Rattle.htl_event.specs.declared.slot.Count.{Count}
use Rattle.htl_event.specs.Tallies.{total_of}
use Rattle.htl_tree.specs.Trees.{Tree, IsTree, ListsSums}
use Rattle.htl_tree.specs.Nodes.{tree_of, asked_of, counts_in}
use Rattle.htl_tree.proofs.Between.{lists_sums, asked_total, asked_positive}
use Rattle.htl_tree.proofs.SlotSums.{sorted_counts, added_moved, counts_at-moved, positive_moved}
use Rattle.htl_tree.proofs.Roots.{root_is_tree}
use Rattle.htl_tree.proofs.tree.StackTree.sums_of.Goals as goal

abbrev Counts : Type 0
Counts = List (Slot × Count)

pub add_up-requires-clause-positive : goal.add_up-requires-clause-positive
add_up-requires-clause-positive g c =
    let t : Tree = tree_of c.self.inside.root in
    let all : Counts = asked_of c.args.slots (counts_in t) in
    let h = root_is_tree c.self.inside.root c.self.invariant.normal in
    let moved = sorted_counts all c.in_ok-counts.counts.items c.sort_by_slot.new.counts.items c.deref.result.now
    c.in_ok-counts.ensures c.sort_by_slot.ensures.moved c.deref.ensures.value in
    positive_moved all c.deref.result.now moved (asked_positive c.args.slots t h.positive)

pub add_up-requires-clause-fit : goal.add_up-requires-clause-fit
add_up-requires-clause-fit g c slot =
    let t : Tree = tree_of c.self.inside.root in
    let all : Counts = asked_of c.args.slots (counts_in t) in
    let moved = sorted_counts all c.in_ok-counts.counts.items c.sort_by_slot.new.counts.items c.deref.result.now
    c.in_ok-counts.ensures c.sort_by_slot.ensures.moved c.deref.ensures.value in
    let most = asked_total c.args.slots slot t in
    subst (λ d. total_of d < 2 ^ 64) (sym (counts_at-moved all c.deref.result.now moved slot))
    (omega (arith, most, c.self.invariant.counted, c.self.invariant.fits))

pub returns-clause-sums : goal.returns-clause-sums
returns-clause-sums g c =
    let t : Tree = tree_of c.self.inside.root in
    let all : Counts = asked_of c.args.slots (counts_in t) in
    let moved = sorted_counts all c.in_ok-counts.counts.items c.sort_by_slot.new.counts.items c.deref.result.now
    c.in_ok-counts.ensures c.sort_by_slot.ensures.moved c.deref.ensures.value in
    IfOk-weaker c.add_up.result _ _ (λ sums added.
    subst (λ (u : Tree). ListsSums u c.args.slots sums.items) c.self.view_is
    (lists_sums t c.args.slots sums.items (added_moved all c.deref.result.now sums.items moved added))) c.add_up.ensures

pub returns-clause-tree : goal.returns-clause-tree
returns-clause-tree g c = subst (λ t. IsTree t) c.self.view_is (root_is_tree c.self.inside.root c.self.invariant.normal)

pub returns-in_err-counts-clause-tree : goal.returns-in_err-counts-clause-tree
returns-in_err-counts-clause-tree g c = subst (λ t. IsTree t) c.self.view_is (root_is_tree c.self.inside.root c.self.invariant.normal)
