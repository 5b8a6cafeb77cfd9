-- The parts answer which handles of the taken events are outstanding, as sequences differ.
use Rattle.htl_analyst.specs.TakenEvents.{taken_events}
use Rattle.htl_analyst.proofs.Answered.{are_events_read, own_sequences}
use Rattle.htl_analyst.proofs.analyst.Analyst.outstanding.Goals as goal

pub returns : goal.returns
returns g c = λ T trace right.
    let are = are_events_read T _ c.args.self.now _ c.deref.ensures.value c.self.view_is right in
    c.in_ok-rows.ensures (taken_events T c.args.self.now) are (own_sequences T c.args.self.now trace)
