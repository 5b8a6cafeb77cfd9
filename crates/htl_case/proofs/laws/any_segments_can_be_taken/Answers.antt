-- Segments can be taken one after another, each as a repeat or not.
use Rattle.htl_case.proofs.Headlines.{any_segments_can_be_taken}
use Rattle.htl_case.proofs.laws.any_segments_can_be_taken.Goals as goal

pub returns : goal.returns
returns c = any_segments_can_be_taken
