-- The keeper took the segments of the list so far.
use Rattle.htl_segment.specs.Keepers.{Took}
use Rattle.htl_reading.proofs.rounds.take_list.Given as goal

abbrev pub invariant-loop-segment : goal.invariant-loop-segment
invariant-loop-segment g l = Took g.K.Keeper.gathers l.fn.keeper l.keeper l.yielded
