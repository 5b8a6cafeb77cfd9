-- The rows count what those before did, and the events so far.
use Rattle.std.proofs.Common.{◌++◌, take}
use Rattle.htl_answers.specs.Rows.{rows_of, CountAlike}
use Rattle.htl_answers.proofs.slot_counts.count_events.Given as goal

abbrev pub invariant-loop-event : goal.invariant-loop-event
invariant-loop-event g l =
    CountAlike g.L.Key.Ord.cmp (l.initial.rows.items ++ rows_of g.L.CountedBy.key_of l.slots (take l.event-index l.events)) l.rows.items
