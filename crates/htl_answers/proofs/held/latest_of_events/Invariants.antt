-- The event so far is the handle's latest among those that were passed.
use Rattle.std.proofs.Common.{take}
use Rattle.std.specs.Prelude.{Contains}
use Rattle.std.specs.Option.{option_copied}
use Rattle.htl_event.specs.Handles.{LatestIs}
use Rattle.htl_answers.proofs.held.latest_of_events.Given as goal

abbrev pub invariant-loop-event : goal.invariant-loop-event
invariant-loop-event l = LatestIs (Contains (take l.event-index l.events)) l.process l.base (option_copied l.latest)
