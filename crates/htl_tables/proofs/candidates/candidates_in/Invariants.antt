-- The keys are of the lists so far, and meet each of their opens and closes.
use Rattle.htl_tables.specs.OfProcess.{touches}
use Rattle.htl_tables.proofs.Gathering.{AreFromFirst}
use Rattle.htl_tables.proofs.candidates.candidates_in.Given as goal

abbrev pub invariant-loop-list : goal.invariant-loop-list
invariant-loop-list g l = AreFromFirst g.R.EventList.events_of l.lists (touches l.chosen) l.list l.candidates.keys.items
