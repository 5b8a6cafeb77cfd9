-- Each call of `tables_of` has half as many parts, so the calls end.
use Rattle.std.proofs.Common.{length}
use Rattle.htl_summary.proofs.tables.+tables_of.Given as goal

abbrev pub decreases-tables_of : goal.decreases-tables_of
decreases-tables_of g l = length l.parts.now
