-- The held segments of the processors so far are added up.
use Rattle.std.proofs.Common.{◌≡◌, ◌≤◌, ◌*◌, length, sum_by, take}
use Rattle.htl_analyst.proofs.analyst.Analyst.held.Given as goal

abbrev pub invariant-loop-processor : goal.invariant-loop-processor
invariant-loop-processor g l = record {
  value : l.held ≡ sum_by (λ k. length k.held) (take l.processor l.self.parts);
  bounded : l.held ≤ l.processor * 4294967295;
}
