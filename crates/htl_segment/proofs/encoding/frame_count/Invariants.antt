-- The frames of the events so far are counted.
use Rattle.std.proofs.Common.{◌≡◌, ◌*◌, ◌≤◌, length, take, sum_by}
use Rattle.htl_event.specs.Events.{Event}
use Rattle.htl_segment.proofs.encoding.frame_count.Given as goal

abbrev pub invariant-loop-event : goal.invariant-loop-event
invariant-loop-event l = record {
  value : l.count ≡ sum_by (λ (e : Event). length e.stack) (take l.event-index l.events);
  few : l.count ≤ 64 * l.event-index;
  short : length l.events ≤ 4096;
}
