-- The lists are the same at the places so far.
use Rattle.std.proofs.Common.{◌<◌, ℕ, get_or}
use Rattle.allocation_trials.proofs.same.are_same.Given as goal

abbrev pub invariant-loop-place : goal.invariant-loop-place
invariant-loop-place g l = (k : ℕ) (any : _) → k < l.place → g.T.Same.IsSame (get_or l.these k any) (get_or l.others k any)
