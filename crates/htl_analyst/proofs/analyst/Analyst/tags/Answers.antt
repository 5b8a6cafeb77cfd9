-- The parts answer which tag balances the object has over the taken events, and their counts fit.
use Rattle.htl_analyst.specs.TakenEvents.{taken_events}
use Rattle.htl_analyst.proofs.Answered.{are_events_read, sizes_fit_read}
use Rattle.htl_analyst.proofs.analyst.Analyst.tags.Goals as goal

pub returns : goal.returns
returns g c = λ T right.
    let are = are_events_read T _ c.args.self.now _ c.deref.ensures.value c.self.view_is right in
    c.in_ok-rows.ensures (taken_events T c.args.self.now) are

pub tags-requires : goal.tags-requires
tags-requires g c = sizes_fit_read _ _ c.deref.ensures.value c.self.invariant
