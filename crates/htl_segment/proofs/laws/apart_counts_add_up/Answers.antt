-- Counts over key sets apart add up.
use Rattle.htl_segment.proofs.Traces.{apart_counts_add_up}
use Rattle.htl_segment.proofs.laws.apart_counts_add_up.Goals as goal

pub returns : goal.returns
returns c = apart_counts_add_up
