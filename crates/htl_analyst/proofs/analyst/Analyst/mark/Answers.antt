-- The parts answer which snapshot mark the process has over the taken events.
use Rattle.htl_analyst.specs.TakenEvents.{taken_events}
use Rattle.htl_analyst.proofs.Answered.{are_events_read}
use Rattle.htl_analyst.proofs.analyst.Analyst.mark.Goals as goal

pub returns : goal.returns
returns g c = λ T right.
    let are = are_events_read T _ c.args.self.now _ c.deref.ensures.value c.self.view_is right in
    c.mark.ensures (taken_events T c.args.self.now) are
