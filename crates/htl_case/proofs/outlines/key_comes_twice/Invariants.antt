-- No key of the outlines that were gone through comes twice.
use Rattle.std.proofs.Common.{◌∷◌, drop}
use Rattle.htl_case.proofs.Outlined.{AreGone}
use Rattle.htl_case.proofs.outlines.key_comes_twice.Given as goal

abbrev pub invariant-loop-outline : goal.invariant-loop-outline
invariant-loop-outline l = AreGone l.outlines (l.last ∷ drop l.outline-index l.rest)
