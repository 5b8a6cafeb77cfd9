-- The sum of two trees counts as much as both.
use Rattle.std.proofs.Common.{◌≡◌, ap, arith}
use Rattle.htl_tree.specs.Trees.{total_count}
use Rattle.htl_tree.specs.Nodes.{tree_of}
use Rattle.htl_tree.proofs.Roots.{root_is_tree}
use Rattle.htl_tree.proofs.SumsFromTally.{total_sum}
use Rattle.htl_tree.proofs.tree.StackTree.plus.Goals as goal

pub invariant_of-result : goal.invariant_of-result
invariant_of-result g c =
    let both = total_sum (tree_of c.in_ok-root.root) (tree_of c.self.inside.root) (tree_of c.other.inside.root)
    (root_is_tree c.in_ok-root.root c.in_ok-root.ensures.0) (root_is_tree c.self.inside.root c.self.invariant.normal)
    (root_is_tree c.other.inside.root c.other.invariant.normal) c.in_ok-root.ensures.1 in
    let left : total_count (tree_of c.self.inside.root) ≡ total_count c.args.self.now = ap total_count c.self.view_is in
    let right : total_count (tree_of c.other.inside.root) ≡ total_count c.args.other.now = ap total_count c.other.view_is in
    let a = c.self.invariant.counted in
    let b = c.other.invariant.counted in
    record { normal = c.in_ok-root.ensures.0; counted = omega (arith, both, a, b); fits = omega (arith, a, b, left, right, c.requires) }

pub returns-clause-total : goal.returns-clause-total
returns-clause-total g c =
    let both = total_sum (tree_of c.in_ok-root.root) (tree_of c.self.inside.root) (tree_of c.other.inside.root)
    (root_is_tree c.in_ok-root.root c.in_ok-root.ensures.0) (root_is_tree c.self.inside.root c.self.invariant.normal)
    (root_is_tree c.other.inside.root c.other.invariant.normal) c.in_ok-root.ensures.1 in
    let left : total_count (tree_of c.self.inside.root) ≡ total_count c.args.self.now = ap total_count c.self.view_is in
    let right : total_count (tree_of c.other.inside.root) ≡ total_count c.args.other.now = ap total_count c.other.view_is in
    omega (arith, both, left, right)
