-- The rows on their way make what both tables have at each key.
use Rattle.htl_event.specs.Handles.{later}
use Rattle.htl_tables.specs.Latest.{event_at}
use Rattle.htl_tables.specs.Placing.{IsUnderWay}
use Rattle.htl_tables.proofs.joining.Joining.join.Given as goal

abbrev pub invariant-loop-event : goal.invariant-loop-event
invariant-loop-event g l = IsUnderWay (λ process base. later (event_at l.fn.self.older process base) (event_at l.fn.self.newer process base))
    l.newer.items l.placing.rows.items l.placing.older l.placing.end

abbrev pub decreases-loop-event : goal.decreases-loop-event
decreases-loop-event g l = goal.left-loop-event g l
