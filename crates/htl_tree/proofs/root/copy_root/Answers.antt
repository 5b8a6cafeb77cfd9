-- A copied root has the same tree.
use Rattle.std.proofs.Common.{Some, sym, ap, ◌∙◌, subst}
use Rattle.htl_tree.specs.declared.node.Node.{Node}
use Rattle.htl_tree.specs.Nodes.{top, tree_of, IsNormalRoot, IsCopy}
use Rattle.htl_tree.proofs.Roots.{copied_tree}
use Rattle.htl_tree.proofs.root.copy_root.Goals as goal

pub returns-in_ok-copy-in-Some : goal.returns-in_ok-copy-in-Some
returns-in_ok-copy-in-Some g c =
    let n : Node g.row.A.Denot = c.in-Some.root in
    let m : Node g.row.A.Denot = c.in_ok-copy-in-Some.field-0 in
    let h : IsNormalRoot (Some n) = subst (λ r. IsNormalRoot r) c.in-Some.is c.requires in
    let copy : IsCopy (top n) (top m) = subst (λ s. IsCopy s (top m)) c.top.ensures c.in_ok-copy-in-Some.ensures in
    let copied = copied_tree (top n) (top m) h copy in
    (copied.0, copied.1 ∙ ap (λ r. tree_of r) (sym c.in-Some.is))
