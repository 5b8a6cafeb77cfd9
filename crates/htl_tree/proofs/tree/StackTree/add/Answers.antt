-- One more of a slot at a stack is one more in all.
use Rattle.std.proofs.Common.{◌≡◌, ◌+◌, ◌≤◌, ap, ◌∙◌, arith}
use Rattle.htl_event.specs.Tallies.{total_of}
use Rattle.htl_tree.specs.Trees.{count_at, total_count}
use Rattle.htl_tree.specs.Nodes.{tree_of}
use Rattle.htl_tree.proofs.Roots.{root_is_tree}
use Rattle.htl_tree.proofs.TreesAsLists.{count_le_total, total-with_one}
use Rattle.htl_tree.proofs.tree.StackTree.add.Goals as goal

pub add_to_root-requires-clause-fits : goal.add_to_root-requires-clause-fits
add_to_root-requires-clause-fits g c =
    let t = tree_of c.self.inside.root in
    let most : total_of (count_at t c.args.slot c.frames.result.now) ≤ total_count t = count_le_total t c.args.slot c.frames.result.now in
    let all : total_count t ≡ total_count c.args.self.now = ap total_count c.self.view_is in
    omega (arith, c.requires)

pub invariant_of-self-2 : goal.invariant_of-self-2
invariant_of-self-2 g c =
    let t = tree_of c.self.inside.root in
    let one : total_count (tree_of c.add_to_root.new.root) ≡ total_count t + 1 =
    ap total_count c.in_ok-add_to_root.ensures.1
    ∙ total-with_one t (root_is_tree c.self.inside.root c.self.invariant.normal) c.args.slot c.args.sign c.frames.result.now in
    let all : total_count t ≡ total_count c.args.self.now = ap total_count c.self.view_is in
    let is = c.self.invariant.counted in
    record { normal = c.in_ok-add_to_root.ensures.0; counted = omega (arith, is, one); fits = omega (arith, is, all, c.requires) }

pub returns-clause-total : goal.returns-clause-total
returns-clause-total g c =
    let t = tree_of c.self.inside.root in
    ap total_count c.in_ok-add_to_root.ensures.1 ∙ total-with_one t (root_is_tree c.self.inside.root c.self.invariant.normal)
    c.args.slot c.args.sign c.frames.result.now ∙ ap (λ t. total_count t + 1) c.self.view_is
