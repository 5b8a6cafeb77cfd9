-- The counts from the root on are those of the tree.
use Rattle.std.proofs.Common.{◌++◌, sym, ap, ◌∙◌, subst}
use Rattle.htl_tree.specs.Nodes.{top, inside, frames, tree_of, rows, asked_of, counts_in, IsNormalTop, IsNormalRoot}
use Rattle.htl_tree.proofs.CountAdded.{normal_inside}
use Rattle.htl_tree.proofs.SlotRows.{counts_tree, counts_in-inside}
use Rattle.htl_tree.proofs.root.list_root_counts.Goals as goal

pub list_counts-requires : goal.list_counts-requires
list_counts-requires g c =
    let n = c.in-Some.root in
    let h : IsNormalTop (top n) = subst (λ r. IsNormalRoot r) c.in-Some.is c.requires in
    normal_inside (frames n) n h.normal

pub returns-in_ok-list_counts-in-Some : goal.returns-in_ok-list_counts-in-Some
returns-in_ok-list_counts-in-Some g c =
    let n = c.in-Some.root in
    c.in_ok-list_counts-in-Some.ensures ∙ ap (λ l. l ++ asked_of c.args.slots (counts_in (rows (inside n)))) c.new-counts.ensures.items
    ∙ ap (asked_of c.args.slots) (sym (counts_tree (top n) ∙ counts_in-inside (frames n) n))
    ∙ ap (λ r. asked_of c.args.slots (counts_in (tree_of r))) (sym c.in-Some.is)
