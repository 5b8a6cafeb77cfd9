-- The processors so far are covered.
use Rattle.std.proofs.Common.{ℕ, ◌<◌}
use Rattle.htl_taken.specs.Numbers.{numbers_at}
use Rattle.htl_taken.specs.NumberSets.{Has}
use Rattle.htl_taken.proofs.taken.Taken.covers.Given as goal

abbrev pub invariant-loop-processor : goal.invariant-loop-processor
invariant-loop-processor g l = (p : ℕ) → p < l.processor → (n : ℕ) → Has (numbers_at l.other p) n → Has (numbers_at l.self p) n
