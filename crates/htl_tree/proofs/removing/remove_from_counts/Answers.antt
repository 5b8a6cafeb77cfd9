-- The counts lose one row more, and the zeros at the end.
use Rattle.std.proofs.Common.{List, take, get_or, sym, subst}
use Rattle.std.proofs.lemmas.List.{take_more, take_all}
use Rattle.htl_tree.specs.declared.row.Row.{Row}
use Rattle.htl_tree.specs.Removed.{Lost}
use Rattle.htl_tree.proofs.CountsRemoved.{lost_more, lost_somes, row_room, somes_positive}
use Rattle.htl_tree.proofs.RowsOneMore.{no_row, row_positive}
use Rattle.htl_tree.proofs.removing.remove_from_counts.Goals as goal

pub subtract-requires-clause-positive : goal.subtract-requires-clause-positive
subtract-requires-clause-positive g c = row_positive c.args.rows.now c.loop-row.row-index c.requires.rows c.loop-row-test.true

pub subtract-requires-clause-counted : goal.subtract-requires-clause-counted
subtract-requires-clause-counted g c = row_room c.args.rows.now c.loop-row.row-index no_row c.args.counts.now.items
    c.loop-row.counts.items c.loop-row-test.true c.loop-row.invariant c.requires.counted

pub loop-row-preserved : goal.loop-row-preserved
loop-row-preserved g c =
    let rows = c.args.rows.now in
    let i = c.loop-row.row-index in
    let row : Row = get_or rows i no_row in
    let old = c.args.counts.now.items in
    let mid = c.loop-row.counts.items in
    subst (λ (l : List Row). Lost l old c.subtract.new.counts.items) (sym (take_more rows i no_row c.loop-row-test.true))
    (lost_more (take i rows) row old mid c.subtract.new.counts.items c.loop-row.invariant
    (row_room rows i no_row old mid c.loop-row-test.true c.loop-row.invariant c.requires.counted) c.subtract.ensures)

pub returns-clause-lost : goal.returns-clause-lost
returns-clause-lost g c =
    let rows = c.args.rows.now in
    lost_somes rows c.args.counts.now.items c.loop-row.counts.items c.drop_zeros.new.counts.items
    (subst (λ (l : List Row). Lost l c.args.counts.now.items c.loop-row.counts.items)
    (take_all c.loop-row.row-index rows c.loop-row-test.false) c.loop-row.invariant) c.drop_zeros.ensures

pub returns-clause-positive : goal.returns-clause-positive
returns-clause-positive g c = somes_positive c.loop-row.counts.items c.drop_zeros.new.counts.items c.drop_zeros.ensures
