-- The rows count what those before did, and the events of the lists so far.
use Rattle.std.proofs.Common.{◌++◌, take}
use Rattle.std.specs.Prelude.{flat_map}
use Rattle.htl_answers.specs.Rows.{rows_of, CountAlike}
use Rattle.htl_answers.proofs.slot_counts.count_held.Given as goal

abbrev pub invariant-loop-list : goal.invariant-loop-list
invariant-loop-list g l =
    CountAlike g.L.Key.Ord.cmp
    (l.initial.rows.items ++ rows_of g.L.CountedBy.key_of l.slots (flat_map g.E.EventList.events_of (take l.list-index l.lists))) l.rows.items
