-- The parts answer how often the slot came under the path over the taken events, and their counts fit.
use Rattle.htl_analyst.specs.TakenEvents.{taken_events}
use Rattle.htl_analyst.proofs.Answered.{are_events_read, sizes_fit_read}
use Rattle.htl_analyst.proofs.analyst.Analyst.under.Goals as goal

pub returns : goal.returns
returns g c = λ T right.
    let are = are_events_read T _ c.args.self.now _ c.deref.ensures.value c.self.view_is right in
    c.under.ensures (taken_events T c.args.self.now) are

pub under-requires : goal.under-requires
under-requires g c = sizes_fit_read _ _ c.deref.ensures.value c.self.invariant
