-- The processors so far are united.
use Rattle.std.proofs.Common.{◌≡◌, ℕ, ◌<◌, map, length}
use Rattle.htl_taken.specs.Numbers.{IsUnion, numbers_at}
use Rattle.htl_taken.specs.NumberSets.{numbers_of}
use Rattle.htl_taken.proofs.taken.Taken.union.Given as goal

abbrev pub invariant-loop-processor : goal.invariant-loop-processor
invariant-loop-processor g l = record {
  counted : length l.sets.items ≡ l.processor;
  united : (p : ℕ) → p < l.processor → IsUnion (numbers_at l.self p) (numbers_at l.other p) (numbers_at (map numbers_of l.sets.items) p);
}
