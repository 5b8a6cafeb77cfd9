-- The count under the path is that of the parts so far.
use Rattle.std.proofs.Common.{◌≡◌, ◌≤◌, List, map, take}
use Rattle.htl_event.specs.Events.{Event}
use Rattle.htl_event.specs.Tallies.{under, total_of}
use Rattle.htl_answers.specs.Parts.{AreEventsOf, size_of_all}
use Rattle.htl_answers.proofs.counts.under.Given as goal

abbrev pub invariant-loop-part : goal.invariant-loop-part
invariant-loop-part g l = record {
  value : (events : List Event) → AreEventsOf (map g.P.Part.contents (take l.part-index l.parts)) events
      → l.sum ≡ under events l.path l.slot;
  few : total_of l.sum ≤ size_of_all (map g.P.Part.contents (take l.part-index l.parts));
}
