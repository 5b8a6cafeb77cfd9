-- The rows so far have their stacks.
use Rattle.std.proofs.Common.{◌≡◌, map, take}
use Rattle.htl_saved.specs.Restored.{event_of}
use Rattle.htl_saved.proofs.from_rows.events_of_rows.Given as goal

abbrev pub invariant-loop-row : goal.invariant-loop-row
invariant-loop-row l = l.events.items ≡ map (event_of l.table) (take l.row-index l.rows)
