-- The event so far is the handle's latest in the lists that were passed.
use Rattle.std.proofs.Common.{take}
use Rattle.std.specs.Prelude.{Contains, flat_map}
use Rattle.std.specs.Option.{option_copied}
use Rattle.htl_event.specs.Handles.{LatestIs}
use Rattle.htl_answers.proofs.held.latest_held.Given as goal

abbrev pub invariant-loop-list : goal.invariant-loop-list
invariant-loop-list g l = LatestIs (Contains (flat_map g.E.EventList.events_of (take l.list-index l.lists))) l.process l.base
    (option_copied l.latest)
