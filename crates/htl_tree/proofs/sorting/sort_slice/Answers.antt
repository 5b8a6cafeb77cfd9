-- The rows only change their places, as they are put in buckets and as each bucket is sorted.
use Rattle.std.proofs.lemmas.List.Sorted.{IsPermutation-trans}
use Rattle.htl_tree.proofs.sorting.sort_slice.Goals as goal

pub returns : goal.returns
returns c = IsPermutation-trans c.args.rows.now c.put_in_buckets.new.rows c.sort_buckets.new.rows c.put_in_buckets.ensures c.sort_buckets.ensures
