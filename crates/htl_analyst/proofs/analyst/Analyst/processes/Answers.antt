-- The parts answer which processes the taken events have, as sequences differ and counts fit.
use Rattle.htl_analyst.specs.TakenEvents.{taken_events}
use Rattle.htl_analyst.proofs.Answered.{are_events_read, sizes_fit_read, own_sequences}
use Rattle.htl_analyst.proofs.analyst.Analyst.processes.Goals as goal

pub returns : goal.returns
returns g c = λ T trace right.
    let are = are_events_read T _ c.args.self.now _ c.deref.ensures.value c.self.view_is right in
    c.in_ok-rows.ensures (taken_events T c.args.self.now) are (own_sequences T c.args.self.now trace)

pub processes-requires : goal.processes-requires
processes-requires g c = sizes_fit_read _ _ c.deref.ensures.value c.self.invariant
