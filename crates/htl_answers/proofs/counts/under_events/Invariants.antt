-- The count under the path is that of the events so far.
use Rattle.std.proofs.Common.{◌≡◌, ◌≤◌, take}
use Rattle.htl_event.specs.Tallies.{under, total_of}
use Rattle.htl_answers.proofs.counts.under_events.Given as goal

abbrev pub invariant-loop-event : goal.invariant-loop-event
invariant-loop-event l = record {
  value : l.sum ≡ under (take l.event-index l.events) l.path l.slot;
  few : total_of l.sum ≤ l.event-index;
}
