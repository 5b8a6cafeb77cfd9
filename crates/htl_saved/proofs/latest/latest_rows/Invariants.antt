-- The latest events so far have their rows.
use Rattle.std.proofs.Common.{◌≡◌, map, take}
use Rattle.htl_saved.specs.Tables.{latest_row}
use Rattle.htl_saved.proofs.latest.latest_rows.Given as goal

abbrev pub invariant-loop-event : goal.invariant-loop-event
invariant-loop-event l = l.rows.items ≡ map (latest_row l.table) (take l.event-index l.latest)
