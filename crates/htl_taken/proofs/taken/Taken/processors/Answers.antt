-- The numbers of each processor are proper, also of one that isn't there.
use Rattle.htl_taken.proofs.NumberSets.{IsProper-sets}
use Rattle.htl_taken.proofs.taken.Taken.processors.Goals as goal

pub returns-clause-proper : goal.returns-clause-proper
returns-clause-proper g c = λ p. rw (← c.self.view_is) (IsProper-sets c.self.inside.sets.items p)
