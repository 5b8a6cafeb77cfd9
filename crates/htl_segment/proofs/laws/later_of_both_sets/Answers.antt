-- The later of both is that of the union.
use Rattle.htl_segment.proofs.Traces.{later_of_both_sets}
use Rattle.htl_segment.proofs.laws.later_of_both_sets.Goals as goal

pub returns : goal.returns
returns c = later_of_both_sets
