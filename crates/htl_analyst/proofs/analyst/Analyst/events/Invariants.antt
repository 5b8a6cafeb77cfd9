-- The events of the processors so far are added up.
use Rattle.std.proofs.Common.{◌≡◌, ◌≤◌, ◌*◌, sum_by, take}
use Rattle.htl_analyst.specs.TakenEvents.{events_kept}
use Rattle.htl_analyst.proofs.analyst.Analyst.events.Given as goal

abbrev pub invariant-loop-processor : goal.invariant-loop-processor
invariant-loop-processor g l = record {
  value : l.events ≡ sum_by events_kept (take l.processor l.self.parts);
  bounded : l.events ≤ l.processor * 17592186040320;
}
