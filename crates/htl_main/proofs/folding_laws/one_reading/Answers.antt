-- The law: of given segments the same first part is taken.
use Rattle.htl_main.proofs.RisingLaws.{one_reading}
use Rattle.htl_main.proofs.folding_laws.one_reading.Goals as goal

pub returns : goal.returns
returns c = λ before given first second one other content. one_reading before given content first second one other
