-- The events so far are those of the keys so far, and as many.
use Rattle.std.proofs.Common.{◌≡◌, length}
use Rattle.htl_tables.specs.SortKeys.{AreEventsOfKeys}
use Rattle.htl_tables.proofs.sort_key.events_of.Given as goal

abbrev pub invariant-loop-key : goal.invariant-loop-key
invariant-loop-key g l = AreEventsOfKeys g.R.EventList.events_of l.fn.lists l.fn.keys l.events.items
    × (length l.events.items ≡ l.key-index)
