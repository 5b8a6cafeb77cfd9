-- The number so far is the greatest sequence of the kind and process in the lists that were passed.
use Rattle.std.proofs.Common.{take}
use Rattle.std.specs.Prelude.{flat_map}
use Rattle.htl_tables.specs.Laws.{IsGreatestOf}
use Rattle.htl_answers.proofs.held.greatest_held.Given as goal

abbrev pub invariant-loop-list : goal.invariant-loop-list
invariant-loop-list g l = IsGreatestOf (flat_map g.E.EventList.events_of (take l.list-index l.lists)) l.kind l.process l.greatest
