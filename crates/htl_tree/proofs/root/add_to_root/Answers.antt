-- The root with one more is that of the tree with one more.
use Rattle.std.proofs.Common.{◌≡◌, ◌+◌, ◌<◌, ◌^◌, Some, sym, ap, ◌∙◌, subst, reverse}
use Rattle.htl_event.specs.Tallies.{total_of}
use Rattle.htl_tree.specs.Trees.{count_at, with_one}
use Rattle.htl_tree.specs.Nodes.{top, tally, tree_of, IsNormalRoot}
use Rattle.htl_tree.proofs.CountAdded.{match_result}
use Rattle.htl_tree.proofs.Roots.{count_tree, added_tree, kept_tree, branch_tree}
use Rattle.htl_tree.proofs.root.add_to_root.Goals as goal

pub add-requires-clause-normal : goal.add-requires-clause-normal
add-requires-clause-normal g c = let h : IsNormalRoot (Some c.in-Some.root) =
    subst (λ r. IsNormalRoot r) c.in-Some.is c.requires.normal in h.normal

pub add-requires-clause-fits : goal.add-requires-clause-fits
add-requires-clause-fits g c =
    let h : IsNormalRoot (Some c.in-Some.root) = subst (λ r. IsNormalRoot r) c.in-Some.is c.requires.normal in
    let is : count_at (tree_of c.args.root.now) c.args.slot c.args.stack.now
    ≡ tally (reverse c.args.stack.now) c.args.slot (top c.in-Some.root) =
    ap (λ r. count_at (tree_of r) c.args.slot c.args.stack.now) c.in-Some.is
    ∙ count_tree (top c.in-Some.root) h.normal c.args.slot c.args.stack.now in
    subst (λ k. total_of k + 1 < 2 ^ 64) is c.requires.fits

pub returns-in-Some : goal.returns-in-Some
returns-in-Some g c =
    let h : IsNormalRoot (Some c.in-Some.root) = subst (λ r. IsNormalRoot r) c.in-Some.is c.requires.normal in
    match_result c.add.result c.add.ensures
    (λ x added. let now = added_tree c.args.slot c.args.sign c.args.stack.now (top c.in-Some.root) (top c.add.new.self) h c.requires.short added in
    (now.0, now.1 ∙ ap (λ r. with_one (tree_of r) c.args.slot c.args.sign c.args.stack.now) (sym c.in-Some.is)))
    (λ x kept. let now = kept_tree (top c.in-Some.root) (top c.add.new.self) h kept in (now.0, now.1 ∙ ap (λ r. tree_of r) (sym c.in-Some.is)))

pub returns : goal.returns
returns g c =
    let now = branch_tree c.args.slot c.args.sign c.args.stack.now (top c.in_ok-branch.branch) c.requires.short c.in_ok-branch.ensures in
    (now.0, now.1 ∙ ap (λ r. with_one (tree_of r) c.args.slot c.args.sign c.args.stack.now) (sym c.in_default.is))
