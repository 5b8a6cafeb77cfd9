-- The parts that are read have the taken events, and their counts fit.
use Rattle.htl_analyst.proofs.Answered.{are_events_read, sizes_fit_read}
use Rattle.htl_analyst.proofs.analyst.Analyst.parts.Goals as goal

pub returns-clause-events : goal.returns-clause-events
returns-clause-events g c = λ T right. are_events_read T _ c.args.self.now _ c.deref.ensures.value c.self.view_is right

pub returns-clause-few : goal.returns-clause-few
returns-clause-few g c = sizes_fit_read _ _ c.deref.ensures.value c.self.invariant
