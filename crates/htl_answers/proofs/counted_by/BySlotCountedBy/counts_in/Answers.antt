-- What a tree lists of slots counts as its events do.
use Rattle.std.proofs.lemmas.Result.{IfOk-weaker}
use Rattle.htl_answers.proofs.FoldedRows.{sums_count, sums_few}
use Rattle.htl_answers.proofs.counted_by.BySlotCountedBy.counts_in.Goals as goal

pub returns-clause-counts : goal.returns-clause-counts
returns-clause-counts g c = IfOk-weaker c.sums_of.result _ _ (λ rows is.
    sums_count c.args.tree.now c.args.slots rows.items c.sums_of.ensures.tree is) c.sums_of.ensures.sums

pub returns-clause-positive : goal.returns-clause-positive
returns-clause-positive g c = IfOk-weaker c.sums_of.result _ _ (λ rows is row h. ((is.members row).0 h).1) c.sums_of.ensures.sums

pub returns-clause-total : goal.returns-clause-total
returns-clause-total g c = IfOk-weaker c.sums_of.result _ _ (λ rows is. sums_few c.args.tree.now c.args.slots rows.items is) c.sums_of.ensures.sums
