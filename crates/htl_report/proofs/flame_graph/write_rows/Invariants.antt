-- The lines of the folded stacks so far were written.
use Rattle.std.proofs.Common.{◌≡◌, ◌++◌, take}
use Rattle.std.specs.List.{flat_map}
use Rattle.htl_report.specs.Folded.{folded_line}
use Rattle.htl_report.proofs.flame_graph.write_rows.Given as goal

abbrev pub invariant-loop-row : goal.invariant-loop-row
invariant-loop-row g l = l.out.items ≡ l.initial.out.items
    ++ flat_map (λ row. folded_line l.symbols (g.R.FoldedRow.stack_of row) (g.R.FoldedRow.handles_of row)) (take l.row-index l.rows)
