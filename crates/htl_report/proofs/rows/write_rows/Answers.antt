-- No stack was printed at first.
use Rattle.std.proofs.Common.{rules, string_bytes}
use Rattle.htl_report.proofs.rows.write_rows.Goals as goal

pub loop-row-init : goal.loop-row-init
loop-row-init g c = record { text = search rules; printed = c.in_ok-printed.ensures c.args.symbols.now (string_bytes c.args.out.now) }
