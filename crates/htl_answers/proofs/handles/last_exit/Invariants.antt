-- The number so far is the process's last exit over the parts that were passed.
use Rattle.std.proofs.Common.{List, map, take}
use Rattle.std.specs.Prelude.{Contains}
use Rattle.htl_event.specs.Handles.{IsLastExit}
use Rattle.htl_event.specs.Events.{Event}
use Rattle.htl_answers.specs.Parts.{AreEventsOf}
use Rattle.htl_answers.proofs.handles.last_exit.Given as goal

abbrev pub invariant-loop-part : goal.invariant-loop-part
invariant-loop-part g l = (events : List Event) → AreEventsOf (map g.P.Part.contents (take l.part-index l.parts)) events
    → IsLastExit (Contains events) l.process l.exit
