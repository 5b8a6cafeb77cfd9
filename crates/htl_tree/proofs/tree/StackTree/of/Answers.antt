-- What an empty tree counts too is all that it counts.
use Rattle.std.proofs.Common.{[], refl, sym, subst}
use Rattle.htl_tree.specs.Trees.{HasTally}
use Rattle.htl_tree.proofs.tree.StackTree.of.Goals as goal

pub returns-clause-tally : goal.returns-clause-tally
returns-clause-tally g c =
    c.in_ok-count.ensures.tally [] (subst (λ t. HasTally t []) (sym c.new-tree.ensures) (λ slot stack. refl))
