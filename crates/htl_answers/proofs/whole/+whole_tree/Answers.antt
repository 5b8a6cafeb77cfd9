-- The tree of both halves together is the sum of their trees.
use Rattle.std.proofs.Common.{length, ◌/◌}
use Rattle.std.proofs.lemmas.Result.{IfOk-weaker}
use Rattle.htl_tree.specs.Trees.{total_count}
use Rattle.htl_answers.proofs.WholeLemmas.{tally_halves, total_halves}
use Rattle.htl_answers.proofs.whole.+whole_tree.Goals as goal

pub returns-clause-tally : goal.returns-clause-tally
returns-clause-tally g t c =
    let parts = c.args.parts.now in
    IfOk-weaker c.plus.result _ _ (λ sum is.
    tally_halves g.P.Part.contents (length parts / 2) parts _ _ c.split_at.ensures.front c.split_at.ensures.back
    sum c.in_ok-left.left c.in_ok-right.right is c.in_ok-left.ensures.tally c.in_ok-right.ensures.tally) c.plus.ensures.tally

pub returns-clause-total : goal.returns-clause-total
returns-clause-total g t c =
    let parts = c.args.parts.now in
    IfOk-weaker c.plus.result _ _ (λ sum is.
    total_halves g.P.Part.contents (length parts / 2) parts _ _ c.split_at.ensures.front c.split_at.ensures.back (total_count sum)
    (total_count c.in_ok-left.left) (total_count c.in_ok-right.right) is c.in_ok-left.ensures.total c.in_ok-right.ensures.total)
    c.plus.ensures.total
