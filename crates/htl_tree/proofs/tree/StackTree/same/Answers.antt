-- Trees are told to be the same exactly where they count the same, and that is where they are equal.
use Rattle.std.proofs.Common.{refl, sym, ◌∙◌, subst}
use Rattle.htl_tree.specs.Trees.{Tree, IsSameTally}
use Rattle.htl_tree.specs.Nodes.{tree_of}
use Rattle.htl_tree.proofs.Roots.{equal_trees}
use Rattle.htl_tree.proofs.tree.StackTree.same.Goals as goal

pub returns-clause-tally : goal.returns-clause-tally
returns-clause-tally g c = (
  λ yes. subst (λ (t : Tree). IsSameTally t c.args.other.now) c.self.view_is
      (subst (λ (t : Tree). IsSameTally (tree_of c.self.inside.root) t) c.other.view_is (c.same_roots.ensures.0 yes)),
  λ same. c.same_roots.ensures.1 (subst (λ (t : Tree). IsSameTally t (tree_of c.other.inside.root)) (sym c.self.view_is)
      (subst (λ (t : Tree). IsSameTally c.args.self.now t) (sym c.other.view_is) same)),
)

pub returns-clause-equal : goal.returns-clause-equal
returns-clause-equal g c = (
  λ yes. sym c.self.view_is ∙ equal_trees c.self.inside.root c.other.inside.root c.self.invariant.normal c.other.invariant.normal
      (c.same_roots.ensures.0 yes) ∙ c.other.view_is,
  λ equal. c.same_roots.ensures.1 (subst (λ (t : Tree). IsSameTally (tree_of c.self.inside.root) t)
      (c.self.view_is ∙ equal ∙ sym c.other.view_is) (λ slot stack. refl)),
)
