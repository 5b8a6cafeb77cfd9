-- The event so far is the handle's latest over the parts that were passed.
use Rattle.std.proofs.Common.{List, map, take}
use Rattle.std.specs.Prelude.{Contains}
use Rattle.std.specs.Option.{option_copied}
use Rattle.htl_event.specs.Slots.{base_of}
use Rattle.htl_event.specs.Handles.{LatestIs}
use Rattle.htl_event.specs.Events.{Event}
use Rattle.htl_answers.specs.Parts.{AreEventsOf}
use Rattle.htl_answers.proofs.handles.latest.Given as goal

abbrev pub invariant-loop-part : goal.invariant-loop-part
invariant-loop-part g l = (events : List Event) → AreEventsOf (map g.P.Part.contents (take l.part-index l.parts)) events
    → LatestIs (Contains events) l.process (base_of l.handle) (option_copied l.latest)
