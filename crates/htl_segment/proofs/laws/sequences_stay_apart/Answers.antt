-- What is left of a list with its own sequences has its own sequences.
use Rattle.htl_segment.proofs.Traces.{sequences_stay_apart}
use Rattle.htl_segment.proofs.laws.sequences_stay_apart.Goals as goal

pub returns : goal.returns
returns c = sequences_stay_apart
