-- The filters of the counts so far are there.
use Rattle.std.proofs.Common.{take}
use Rattle.htl_tree.specs.Filters.{HaveFilters}
use Rattle.htl_tree.proofs.filters.filters_of.Given as goal

abbrev pub invariant-loop-slot : goal.invariant-loop-slot
invariant-loop-slot l = HaveFilters l.filters (take l.slot-index l.counts)
