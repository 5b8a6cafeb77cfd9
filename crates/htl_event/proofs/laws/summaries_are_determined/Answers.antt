-- Each answer of a summary is the only one.
use Rattle.htl_event.proofs.Summarized.{summaries_are_determined}
use Rattle.htl_event.proofs.laws.summaries_are_determined.Goals as goal

pub returns : goal.returns
returns c = summaries_are_determined
