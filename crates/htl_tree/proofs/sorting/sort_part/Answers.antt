-- A part of the rows that was sorted stands in its place among the others.
use Rattle.std.proofs.Common.{◌-◌}
use Rattle.std.proofs.lemmas.List.Sorted.{IsPermutation-put_mid}
use Rattle.htl_tree.proofs.sorting.sort_part.Goals as goal

pub returns-then-end-rows : goal.returns-then-end-rows
returns-then-end-rows c =
    IsPermutation-put_mid c.args.start (c.args.end - c.args.start) c.args.rows.now c.sort_unstable_by.new.self
    c.sort_unstable_by.ensures.permutation
