-- The events of a run up to a segment are those below it and its own.
use Rattle.htl_segment.proofs.Traces.{runs_grow}
use Rattle.htl_segment.proofs.laws.runs_grow.Goals as goal

pub returns : goal.returns
returns c = runs_grow
