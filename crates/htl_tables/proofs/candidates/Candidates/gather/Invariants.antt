-- The keys of the list's events so far came to those that were there.
use Rattle.htl_tables.specs.OfProcess.{touches}
use Rattle.htl_tables.proofs.Gathering.{GathersFirst}
use Rattle.htl_tables.proofs.candidates.Candidates.gather.Given as goal

abbrev pub invariant-loop-index : goal.invariant-loop-index
invariant-loop-index g l = GathersFirst l.list l.events (touches l.chosen) l.initial.self.keys.items l.index l.self.keys.items
