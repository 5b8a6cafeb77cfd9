-- Sorting the buckets so far only changed the places of the rows.
use Rattle.std.specs.List.Sorted.{IsPermutation}
use Rattle.htl_tree.proofs.sorting.sort_buckets.Given as goal

abbrev pub invariant-loop-bucket : goal.invariant-loop-bucket
invariant-loop-bucket l = IsPermutation l.fn.rows l.rows
