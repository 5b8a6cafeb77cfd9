-- A turn reads the next row, or the reading of all is refused there.
use Rattle.std.proofs.lemmas.Result.{err_from_is_err_and}
use Rattle.htl_state.proofs.Turns.{row_read_after, row_refusal, rows_done}
use Rattle.htl_state.proofs.row.read_rows.Goals as goal

pub loop-place-preserved : goal.loop-place-preserved
loop-place-preserved g c =
    let last = rw c.deref.ensures.value at c.last.ensures.value in
    rw c.in_ok-push.ensures.items (row_read_after g.R.Row.format c.args.setting c.args.count c.loop-place._place c.loop-place.rows.items
    c.loop-place.rest.now c.in_ok-row.after.now c.in_ok-row.row _ _ last c.loop-place-test.true c.in_ok-row.ensures c.loop-place.invariant)

pub returns-in_err-row : goal.returns-in_err-row
returns-in_err-row g c =
    let last = rw c.deref.ensures.value at c.last.ensures.value in
    let p = err_from_is_err_and c.from_residual-in_err-row.result c.from_residual-in_err-row.ensures.1 in
    rw (p.1, p.2) (row_refusal g.R.Row.format c.args.setting c.args.count c.loop-place._place c.loop-place.rows.items c.loop-place.rest.now
    c.in_err-row.field-0.0 _ _ last c.loop-place-test.true c.in_err-row.ensures c.loop-place.invariant)

pub returns : goal.returns
returns g c =
    rows_done g.R.Row.format c.args.setting c.args.count c.loop-place._place c.loop-place.rows.items c.loop-place.rest.now _
    c.loop-place-test.false c.loop-place.invariant
