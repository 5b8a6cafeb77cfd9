-- The gaps so far are those of the processors that were passed.
use Rattle.std.proofs.Common.{◌≡◌, true}
use Rattle.htl_taken.specs.Numbers.{has_key}
use Rattle.htl_taken.specs.Gaps.{IsGaps}
use Rattle.htl_taken.proofs.taken.Taken.gaps.Given as goal

abbrev pub invariant-loop-processor : goal.invariant-loop-processor
invariant-loop-processor g l = IsGaps (λ p n. has_key l.self p n ≡ true) l.processor l.gaps.items
