-- The prefix tally of the tree is that of its events.
use Rattle.std.proofs.Common.{ap, ◌∙◌, subst}
use Rattle.htl_tree.specs.Trees.{count_under, IsTree}
use Rattle.htl_tree.proofs.Roots.{root_is_tree}
use Rattle.htl_tree.proofs.Events.{under_events}
use Rattle.htl_tree.proofs.tree.StackTree.under.Goals as goal

pub returns-clause-events : goal.returns-clause-events
returns-clause-events g c events tallied =
    let t : IsTree c.args.self.now = subst (λ t. IsTree t) c.self.view_is (root_is_tree c.self.inside.root c.self.invariant.normal) in
    c.under_root.ensures ∙ ap (λ t. count_under t c.args.path.now c.args.slot) c.self.view_is
    ∙ under_events c.args.self.now t events tallied c.args.path.now c.args.slot
