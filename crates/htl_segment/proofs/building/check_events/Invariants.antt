-- The events tested so far have no fault, so the question is left to those after them.
use Rattle.std.proofs.Common.{◌≡◌, take, drop, All}
use Rattle.htl_event.specs.Ranges.{InRange}
use Rattle.htl_segment.specs.Building.{events_fault}
use Rattle.htl_segment.proofs.building.check_events.Given as goal

abbrev pub invariant-loop-place : goal.invariant-loop-place
invariant-loop-place l = record {
  so_far : events_fault l.version l.place l.last (drop l.place l.events) ≡ events_fault l.version 0 0 l.events;
  in_range : All InRange (take l.place l.events);
}
