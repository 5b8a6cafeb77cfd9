-- The later of both is the latest of the union.
use Rattle.htl_event.proofs.Unions.{later_of_both}
use Rattle.htl_event.proofs.laws.later_of_both.Goals as goal

pub returns : goal.returns
returns c = later_of_both
