-- The processors so far have equal numbers.
use Rattle.std.proofs.Common.{◌≡◌, ℕ, ◌<◌}
use Rattle.htl_taken.specs.Numbers.{numbers_at}
use Rattle.htl_taken.proofs.taken.Taken.same.Given as goal

abbrev pub invariant-loop-processor : goal.invariant-loop-processor
invariant-loop-processor g l = (p : ℕ) → p < l.processor → numbers_at l.self p ≡ numbers_at l.other p
