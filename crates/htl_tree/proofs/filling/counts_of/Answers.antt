-- With one row more, the counts are those of one row more.
use Rattle.std.proofs.Common.{List, [], take, get_or, refl, sym, ap, subst, arith}
use Rattle.std.proofs.lemmas.List.{take_more}
use Rattle.htl_event.specs.Tallies.{total_of}
use Rattle.htl_tree.specs.declared.row.Row.{Row}
use Rattle.htl_tree.specs.Rows.{Gained}
use Rattle.htl_tree.proofs.RowsAdded.{sum_room, gained_more}
use Rattle.htl_tree.proofs.RowsOneMore.{no_row, row_positive}
use Rattle.htl_tree.proofs.filling.counts_of.Goals as goal

pub add_count-requires-clause-fits : goal.add_count-requires-clause-fits
add_count-requires-clause-fits g c =
    let rows = c.args.rows.now in
    let i = c.loop-row.row-index in
    let row : Row = get_or rows i no_row in
    let room = sum_room rows i no_row row.slot c.loop-row-test.true refl in
    let now = ap total_of (c.loop-row.invariant.counts row.slot) in
    let fits = c.requires.fits row.slot in
    omega (arith, room, now, fits)

pub loop-row-preserved : goal.loop-row-preserved
loop-row-preserved g c =
    let rows = c.args.rows.now in
    let i = c.loop-row.row-index in
    let row : Row = get_or rows i no_row in
    subst (λ (l : List Row). Gained l [] c.add_count.new.counts.items)
    (sym (take_more rows i no_row c.loop-row-test.true))
    (gained_more (take i rows) row [] c.loop-row.counts.items c.add_count.new.counts.items c.loop-row.invariant
    (row_positive rows i c.requires.rows c.loop-row-test.true) c.in_ok-add_count.ensures)
