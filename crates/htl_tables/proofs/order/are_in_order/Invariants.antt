-- Each row so far is above the one before it.
use Rattle.htl_tables.proofs.InOrder.{RiseTo}
use Rattle.htl_tables.proofs.order.are_in_order.Given as goal

abbrev pub invariant-loop-place : goal.invariant-loop-place
invariant-loop-place g l = RiseTo g.L.Keyed.key_of g.L.Keyed.value_of g.L.Key.Ord.cmp l.rows l.place
