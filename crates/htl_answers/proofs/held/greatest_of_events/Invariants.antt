-- The number so far is the greatest sequence of the kind and process among the events that were passed.
use Rattle.std.proofs.Common.{take}
use Rattle.htl_tables.specs.Laws.{IsGreatestOf}
use Rattle.htl_answers.proofs.held.greatest_of_events.Given as goal

abbrev pub invariant-loop-event : goal.invariant-loop-event
invariant-loop-event l = IsGreatestOf (take l.event-index l.events) l.kind l.process l.greatest
