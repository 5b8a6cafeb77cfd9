-- The rows so far are the counts that were passed.
use Rattle.std.proofs.Common.{◌≡◌, map, take}
use Rattle.htl_tree.specs.Trees.{by_stack, AllShort}
use Rattle.htl_tree.specs.Rows.{entries_of}
use Rattle.htl_tree.proofs.tally.rows_of_counts.Given as goal

abbrev pub invariant-loop-slot : goal.invariant-loop-slot
invariant-loop-slot g l = record {
  entries : entries_of l.rows.items ≡ map by_stack (take l.slot-index l.counts);
  short : AllShort (entries_of l.rows.items);
}
