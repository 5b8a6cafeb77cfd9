-- Each row names a stack of the table, and one row more has its stack.
use Rattle.std.proofs.Common.{◌∙◌}
use Rattle.std.proofs.lemmas.List.Elements.{Contains-get_or}
use Rattle.htl_saved.proofs.RowsWithStacks.{copied, listed_more}
use Rattle.htl_saved.proofs.from_rows.counts_of_rows.Goals as goal

pub bounds-table-row : goal.bounds-table-row
bounds-table-row c = c.requires.here _ (Contains-get_or c.args.rows.now c.loop-row.row-index _ c.loop-row-test.true)

pub loop-row-preserved : goal.loop-row-preserved
loop-row-preserved c =
    let rows = c.args.rows.now in
    let table = c.args.table.now in
    let lt = c.requires.here _ (Contains-get_or rows c.loop-row.row-index _ c.loop-row-test.true) in
    c.in_ok-push.ensures.items
    ∙ listed_more table rows c.loop-row.row-index _ c.loop-row.counts.items c.in_ok-stack.stack c.loop-row-test.true c.loop-row.invariant
    (copied table _ c.index-table-row.result c.in_ok-stack.stack lt c.index-table-row.is c.in_ok-stack.ensures)
