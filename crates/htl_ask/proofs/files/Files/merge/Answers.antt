-- A line that merges a state asks for all its bytes.
use Rattle.htl_ask.proofs.RestoringLaws.{reads_one}
use Rattle.htl_ask.proofs.files.Files.merge.Goals as goal

pub returns-in-Ok-clause-asked : goal.returns-in-Ok-clause-asked
returns-in-Ok-clause-asked g c = reads_one _ _ _ c.merge_named.result c.merge_named.ensures.asked
