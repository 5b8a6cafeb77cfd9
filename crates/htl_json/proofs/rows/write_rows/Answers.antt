-- Each turn adds the line of one row.
use Rattle.std.proofs.Common.{arith}
use Rattle.htl_json.proofs.Added.{row_added, rows_done}
use Rattle.htl_json.proofs.rows.write_rows.Goals as goal

pub loop-row-preserved : goal.loop-row-preserved
loop-row-preserved g c =
    row_added (g.F.Form.value_of c.args.symbols.now) c.args.rows.now c.loop-row.row-index c.row-item.result c.args.lines.now c.loop-row.lines
    c.write.new.lines c.loop-row-test.true c.row-item.is c.loop-row.invariant c.in_ok-write.ensures

pub returns : goal.returns
returns g c =
    rows_done (g.F.Form.value_of c.args.symbols.now) c.args.rows.now c.loop-row.row-index c.args.lines.now c.loop-row.lines (omega arith)
    c.loop-row.invariant
