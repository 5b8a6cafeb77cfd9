-- The processors so far have their rows, made of trees and tables.
use Rattle.std.proofs.Common.{◌≡◌, ◌<◌, ℕ, length}
use Rattle.htl_taken.specs.Numbers.{front_at}
use Rattle.htl_analyst.specs.States.{part_at, folded_at}
use Rattle.htl_saved.specs.AnalystRows.{part_rows, rows_at, HasTables}
use Rattle.htl_saved.proofs.parts.all_parts.Given as goal

abbrev pub invariant-loop-processor : goal.invariant-loop-processor
invariant-loop-processor g l =
    (length l.parts.items ≡ l.processor)
    × ((p : ℕ) → p < l.processor → rows_at l.parts.items p
    ≡ part_rows l.table (front_at l.analyst.taken p) (part_at l.analyst.parts p))
    × ((p : ℕ) → p < l.processor → HasTables (folded_at l.analyst.parts p))
