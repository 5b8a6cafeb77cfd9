-- The counts so far have their rows.
use Rattle.std.proofs.Common.{◌≡◌, map, take}
use Rattle.htl_tree.specs.Trees.{by_stack}
use Rattle.htl_saved.specs.Tables.{count_row}
use Rattle.htl_saved.proofs.Tallies.{Listed}
use Rattle.htl_saved.proofs.counts.rows_of_counts.Given as goal

abbrev pub invariant-loop-slot : goal.invariant-loop-slot
invariant-loop-slot l = l.rows.items ≡ map (λ (row : Listed). count_row l.table (by_stack row)) (take l.slot-index l.counts)
