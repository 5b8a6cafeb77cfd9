-- No number that was gone through comes twice.
use Rattle.std.proofs.Common.{◌∷◌, drop}
use Rattle.htl_segment.proofs.Times.{AreGone}
use Rattle.htl_segment.proofs.repeated.first_repeated.Given as goal

abbrev pub invariant-loop-number : goal.invariant-loop-number
invariant-loop-number l = AreGone l.numbers (l.last ∷ drop l.number-index l.rest)
