-- Putting rows in buckets only changes their places.
use Rattle.std.specs.List.Sorted.{IsPermutation}
use Rattle.htl_tree.proofs.sorting.put_in_buckets.Given as goal

abbrev pub invariant-loop : goal.invariant-loop
invariant-loop l = IsPermutation l.fn.rows l.rows
