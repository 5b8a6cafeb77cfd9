-- Records are read in one way.
use Rattle.htl_symbols.proofs.OneTable.{one_reading}
use Rattle.htl_symbols.proofs.laws.one_reading.Goals as goal

pub returns : goal.returns
returns c = one_reading
