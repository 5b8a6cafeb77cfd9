-- The lines of the rows so far were written, and where lines stand is known.
use Rattle.std.proofs.Common.{◌≡◌, ◌++◌, take, string_bytes}
use Rattle.std.specs.List.{flat_map}
use Rattle.htl_report.specs.Printed.{HasPrinted}
use Rattle.htl_report.specs.Rows.{with_stack}
use Rattle.htl_report.proofs.rows.write_rows.Given as goal

abbrev pub invariant-loop-row : goal.invariant-loop-row
invariant-loop-row g l = record {
  text : string_bytes l.out
      ≡ string_bytes l.initial.out ++ flat_map (λ row. with_stack l.symbols (g.F.Form.line_of row) (g.F.Form.stack_of row)) (take l.row-index l.rows);
  printed : HasPrinted l.symbols (string_bytes l.out) l.printed.places.items;
}
