-- The sum of two roots, either of which may count nothing, counts what the trees of both count together.
use Rattle.std.proofs.Common.{◌+◌, ◌<◌, ◌^◌, Some, sym, subst}
use Rattle.htl_tree.specs.Trees.{total_count}
use Rattle.htl_tree.specs.declared.node.Node.{Node}
use Rattle.htl_tree.specs.Nodes.{position_of, top, tree_of, IsNormalRoot, IsSum, FitsSum}
use Rattle.htl_tree.proofs.Roots.{fits_roots, summed_tree}
use Rattle.htl_tree.proofs.root.plus_roots.Goals as goal

pub plus-requires-clause-fits : goal.plus-requires-clause-fits
plus-requires-clause-fits g c =
    let n : Node g.row.A.Denot = c.in-Some-Some.left in
    let m : Node g.row.A.Denot = c.in-Some-Some.right in
    let left : IsNormalRoot (Some n) = subst (λ r. IsNormalRoot r) c.in-Some-Some.is-0 c.requires.left in
    let right : IsNormalRoot (Some m) = subst (λ r. IsNormalRoot r) c.in-Some-Some.is-1 c.requires.right in
    let fits : FitsSum (top n) (top m) = fits_roots (top n) (top m) left.normal right.normal
    (subst (λ r. total_count (tree_of (Some n)) + total_count (tree_of r) < 2 ^ 64) c.in-Some-Some.is-1
    (subst (λ r. total_count (tree_of r) + total_count (tree_of c.args.right.now) < 2 ^ 64) c.in-Some-Some.is-0 c.requires.fits)) in
    subst (λ s. FitsSum s (position_of c.top-in-Some-Some.result)) (sym c.top.ensures)
    (subst (λ s. FitsSum (top n) s) (sym c.top-in-Some-Some.ensures) fits)

pub returns-in_ok-plus-in-Some-Some : goal.returns-in_ok-plus-in-Some-Some
returns-in_ok-plus-in-Some-Some g c =
    let n : Node g.row.A.Denot = c.in-Some-Some.left in
    let m : Node g.row.A.Denot = c.in-Some-Some.right in
    let made : Node g.row.A.Denot = c.in_ok-plus-in-Some-Some.field-0 in
    let left : IsNormalRoot (Some n) = subst (λ r. IsNormalRoot r) c.in-Some-Some.is-0 c.requires.left in
    let right : IsNormalRoot (Some m) = subst (λ r. IsNormalRoot r) c.in-Some-Some.is-1 c.requires.right in
    let sum : IsSum (top n) (top m) (top made) = subst (λ s. IsSum s (top m) (top made)) c.top.ensures
    (subst (λ s. IsSum (position_of c.top.result) s (top made)) c.top-in-Some-Some.ensures c.in_ok-plus-in-Some-Some.ensures) in
    rw (c.in-Some-Some.is-0, c.in-Some-Some.is-1) (summed_tree (top n) (top m) (top made) left right sum)
