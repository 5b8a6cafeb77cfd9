-- The shared events so far are the first events.
use Rattle.std.proofs.Common.{◌≡◌, take}
use Rattle.htl_segment.proofs.building.share.Given as goal

abbrev pub invariant-loop-event : goal.invariant-loop-event
invariant-loop-event l = l.shared.items ≡ take l.event-index l.events
