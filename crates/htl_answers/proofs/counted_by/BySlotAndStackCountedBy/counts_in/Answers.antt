-- What a tree lists of slots and stacks counts as its events do.
use Rattle.std.proofs.lemmas.Result.{IfOk-weaker}
use Rattle.htl_answers.proofs.FoldedRows.{rows_count, rows_few}
use Rattle.htl_answers.proofs.counted_by.BySlotAndStackCountedBy.counts_in.Goals as goal

pub returns-clause-counts : goal.returns-clause-counts
returns-clause-counts g c = IfOk-weaker c.rows_of.result _ _ (λ rows is.
    rows_count c.args.tree.now c.args.slots rows.items is) c.rows_of.ensures

pub returns-clause-positive : goal.returns-clause-positive
returns-clause-positive g c = IfOk-weaker c.rows_of.result _ _ (λ rows is row h. ((is.members row).0 h).1) c.rows_of.ensures

pub returns-clause-total : goal.returns-clause-total
returns-clause-total g c = IfOk-weaker c.rows_of.result _ _ (λ rows is. rows_few c.args.tree.now c.args.slots rows.items is) c.rows_of.ensures
