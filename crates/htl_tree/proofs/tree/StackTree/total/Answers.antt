-- The kept total is the sum of all counts.
use Rattle.std.proofs.Common.{subst}
use Rattle.htl_tree.specs.Trees.{IsTree}
use Rattle.htl_tree.proofs.Roots.{root_is_tree}
use Rattle.htl_tree.proofs.tree.StackTree.total.Goals as goal

pub returns-clause-tree : goal.returns-clause-tree
returns-clause-tree g c = subst (λ t. IsTree t) c.self.view_is (root_is_tree c.self.inside.root c.self.invariant.normal)
