-- The root counts what the tree counts.
use Rattle.std.proofs.Common.{Some, sym, ap, ◌∙◌, subst, reverse}
use Rattle.htl_tree.specs.Trees.{count_at}
use Rattle.htl_tree.specs.Nodes.{top, position_of, tally, tree_of, IsNormal, IsNormalRoot}
use Rattle.htl_tree.proofs.Roots.{count_tree}
use Rattle.htl_tree.proofs.tree.StackTree.at.Goals as goal

pub at-requires : goal.at-requires
at-requires g c = let h : IsNormalRoot (Some c.in-Some.root) = subst (λ r. IsNormalRoot r) c.in-Some.is c.self.invariant.normal in
    subst (λ k. IsNormal k) (sym c.top.ensures) h.normal

pub returns-in-Some : goal.returns-in-Some
returns-in-Some g c =
    let h : IsNormalRoot (Some c.in-Some.root) = subst (λ r. IsNormalRoot r) c.in-Some.is c.self.invariant.normal in
    c.at.ensures ∙ ap (λ k. tally (reverse k) c.args.slot (position_of c.top.result)) c.frames.ensures.value
    ∙ ap (λ k. tally (reverse c.args.stack.now) c.args.slot k) c.top.ensures
    ∙ sym (count_tree (top c.in-Some.root) h.normal c.args.slot c.args.stack.now)
    ∙ ap (λ r. count_at (tree_of r) c.args.slot c.args.stack.now) (sym c.in-Some.is)
    ∙ ap (λ t. count_at t c.args.slot c.args.stack.now) c.self.view_is
