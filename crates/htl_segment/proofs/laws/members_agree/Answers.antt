-- The list of the events and their set have the same members.
use Rattle.htl_segment.proofs.Traces.{members_agree}
use Rattle.htl_segment.proofs.laws.members_agree.Goals as goal

pub returns : goal.returns
returns c = members_agree
