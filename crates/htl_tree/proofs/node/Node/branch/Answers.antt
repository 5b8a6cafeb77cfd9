-- A node with one count at its end is a branch.
use Rattle.std.proofs.Common.{◌∷◌, ◌++◌, [], ap, ◌∙◌, subst, reverse}
use Rattle.htl_tree.specs.Nodes.{top, tops, inside, IsBranch}
use Rattle.htl_tree.proofs.CountAdded.{branch_end, branch_top, if_parts}
use Rattle.htl_tree.proofs.node.Node.branch.Goals as goal

pub returns : goal.returns
returns g c =
    let s = c.args.slot in
    let sign = c.args.sign in
    if_parts (λ n. IsBranch (reverse c.args.stack.now) s sign (top n)) _ _ c.leaf.result
    c.leaf.ensures.frames c.leaf.ensures.counts c.leaf.ensures.children c.leaf.ensures.filters
    (λ n first counts children filtered. subst (λ l. IsBranch l s sign (top n)) first (branch_top n s sign (branch_end (inside n) s sign
    (counts ∙ c.in_ok-push.ensures.items ∙ ap (λ l. l ++ (s, c.add_one.result) ∷ []) c.in_ok-counts.ensures.items
    ∙ ap (λ k. (s, k) ∷ []) c.add_one.ensures)
    filtered (ap tops children))))
