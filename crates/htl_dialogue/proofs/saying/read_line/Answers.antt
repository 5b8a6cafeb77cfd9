-- Of what is said alike in whatever dialogue, the fault is the same.
use Rattle.htl_dialogue.proofs.Hearing.{fault_stays}
use Rattle.htl_dialogue.specs.Sayings.{turn}
use Rattle.htl_dialogue.proofs.saying.read_line.Goals as goal

pub returns-else-is_refused_in-clause-fault : goal.returns-else-is_refused_in-clause-fault
returns-else-is_refused_in-clause-fault c =
    λ bytes is. fault_stays c.args.forgets (turn c.args.process bytes) c.in_ok-said.said
    (c.in_ok-said.ensures.said bytes is) (c.in_ok-said.ensures.fault bytes is)
