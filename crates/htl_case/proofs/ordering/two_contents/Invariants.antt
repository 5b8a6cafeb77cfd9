-- No key of the segments that were gone through has two contents.
use Rattle.std.proofs.Common.{◌∷◌, drop}
use Rattle.htl_case.proofs.Repeats.{AreGoneThrough}
use Rattle.htl_case.proofs.ordering.two_contents.Given as goal

abbrev pub invariant-loop-segment : goal.invariant-loop-segment
invariant-loop-segment l = AreGoneThrough l.segments (l.last ∷ drop l.segment-index l.rest)
