-- The processors so far are bounded.
use Rattle.std.proofs.Common.{ℕ, ◌<◌, List, map}
use Rattle.htl_analyst.specs.Restored.{IsBounded, fold_at}
use Rattle.htl_saved.specs.Restored.{fold_told}
use Rattle.htl_saved.proofs.bounds.check_bounds.Given as goal

abbrev pub invariant-loop-processor : goal.invariant-loop-processor
invariant-loop-processor l =
    (table : List (List ℕ)) (p : ℕ) → p < l.processor → IsBounded (fold_at (map (fold_told table) l.parts) p)
