-- The rows of the one tree of all parts give balances that fit, and that are those of the definition once they are added up.
use Rattle.std.proofs.Common.{arith}
use Rattle.std.specs.List.{filter_map}
use Rattle.htl_event.specs.Stacks.{stack_cmp}
use Rattle.htl_tree.specs.declared.slots.Slots.TheVariants.{All}
use Rattle.htl_answers.proofs.FoldedRows.{rows_few}
use Rattle.htl_answers.specs.RowOrder.{stack_same}
use Rattle.htl_summary.specs.Balancing.{stack_balance, AreAdded}
use Rattle.htl_summary.proofs.AddedBalances.{given_fit}
use Rattle.htl_summary.proofs.StackRows.{StackSum, made, rows_are_sums, are_stacks}
use Rattle.htl_summary.proofs.balancing.tag_stacks.Goals as goal

pub add_up-requires-clause-proper : goal.add_up-requires-clause-proper
add_up-requires-clause-proper g c = stack_same

pub add_up-requires-clause-fits : goal.add_up-requires-clause-fits
add_up-requires-clause-fits g c =
    let sums = c.in_ok-sums.sums.items in
    let few = rows_few c.in_ok-tree.tree All sums c.in_ok-sums.ensures in
    let size = c.in_ok-tree.ensures.total in
    let fits = c.requires in
    rw c.in_ok-rows.ensures
    (given_fit (stack_balance c.args.tag) (λ (sum : StackSum). sum.1) (made c.args.tag) sums
    (λ sum h. ((c.in_ok-sums.ensures.members sum).0 h).1) (omega (arith, few, size, fits)))

pub returns : goal.returns
returns g c = λ events are.
    let sums = c.in_ok-sums.sums.items in
    let rows = c.add_up.new.rows.items in
    let listed = rows_are_sums c.in_ok-tree.tree sums events c.in_ok-sums.ensures (c.in_ok-tree.ensures.tally events are) in
    let added : AreAdded stack_cmp (filter_map (stack_balance c.args.tag) sums) rows = rw c.in_ok-rows.ensures at c.add_up.ensures in
    are_stacks c.args.tag events sums rows listed added
