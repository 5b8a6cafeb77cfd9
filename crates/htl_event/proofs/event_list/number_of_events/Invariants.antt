-- The number counted so far is that of the events of the lists that were passed.
use Rattle.std.proofs.Common.{◌≡◌, take, length}
use Rattle.std.specs.List.{flat_map}
use Rattle.htl_event.proofs.event_list.number_of_events.Given as goal

abbrev pub invariant-loop-list : goal.invariant-loop-list
invariant-loop-list g l = l.number ≡ length (flat_map g.R.EventList.events_of (take l.list-index l.lists))
