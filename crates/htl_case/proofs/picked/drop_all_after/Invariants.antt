-- So far the events until the moment are left of the lists that were gone through.
use Rattle.std.specs.Prelude.{nat_le}
use Rattle.htl_case.proofs.EventLists.{AreFiltered}
use Rattle.htl_case.proofs.picked.drop_all_after.Given as goal

abbrev pub invariant-loop-list : goal.invariant-loop-list
invariant-loop-list l = AreFiltered (λ e. nat_le e.sequence l.moment) l.initial.list-items l.list-items l.list-index
