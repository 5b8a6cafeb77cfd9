-- The count under the path is that of the events of the lists so far.
use Rattle.std.proofs.Common.{◌≡◌, ◌≤◌, take, length}
use Rattle.std.specs.Prelude.{flat_map}
use Rattle.htl_event.specs.Tallies.{under, total_of}
use Rattle.htl_answers.proofs.counts.under_held.Given as goal

abbrev pub invariant-loop-list : goal.invariant-loop-list
invariant-loop-list g l = record {
  value : l.sum ≡ under (flat_map g.E.EventList.events_of (take l.list-index l.lists)) l.path l.slot;
  few : total_of l.sum ≤ length (flat_map g.E.EventList.events_of (take l.list-index l.lists));
}
