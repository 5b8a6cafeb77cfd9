-- The first moments of the span are listed, as many as were asked for so far.
use Rattle.std.proofs.Common.{◌≡◌, map}
use Rattle.std.specs.List.{range_with_len}
use Rattle.htl_event.specs.Growth.{moment_at}
use Rattle.htl_answers.proofs.growing.all_moments.Given as goal

abbrev pub invariant-loop-i : goal.invariant-loop-i
invariant-loop-i l = l.moments.items ≡ map (moment_at l.span l.points) (range_with_len 0 l.i)
