-- The lines of the rows so far were added.
use Rattle.std.proofs.Common.{take}
use Rattle.htl_json.specs.Writing.{AddsLines}
use Rattle.htl_json.proofs.rows.write_rows.Given as goal

abbrev pub invariant-loop-row : goal.invariant-loop-row
invariant-loop-row g l = AddsLines (g.F.Form.value_of l.symbols) l.initial.lines l.lines (take l.row-index l.rows)
