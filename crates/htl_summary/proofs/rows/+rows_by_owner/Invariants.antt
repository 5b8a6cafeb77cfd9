-- Each call of `rows_by_owner` has half as many sums, so the calls end.
use Rattle.std.proofs.Common.{length}
use Rattle.htl_summary.proofs.rows.+rows_by_owner.Given as goal

abbrev pub decreases-rows_by_owner : goal.decreases-rows_by_owner
decreases-rows_by_owner g l = length l.sums.now
