-- The stacks of the events so far are added.
use Rattle.std.proofs.Common.{◌≡◌, ◌++◌, map, take}
use Rattle.htl_event.specs.Events.{Event}
use Rattle.htl_saved.proofs.stacks.push_latest.Given as goal

abbrev pub invariant-loop-event : goal.invariant-loop-event
invariant-loop-event l = l.stacks.items ≡ l.initial.stacks.items ++ map (λ (e : Event). e.stack) (take l.event-index l.latest)
