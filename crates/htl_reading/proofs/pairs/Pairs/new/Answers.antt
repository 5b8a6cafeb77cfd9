-- A text without a digit comes to no pairs.
use Rattle.htl_reading.proofs.PairsLaws.{no_pairs}
use Rattle.htl_reading.proofs.pairs.Pairs.new.Goals as goal

pub returns : goal.returns
returns c = rw (c.new.ensures.items) no_pairs
