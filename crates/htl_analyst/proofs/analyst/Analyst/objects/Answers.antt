-- The parts answer which objects of the taken events are unbalanced, and their counts fit.
use Rattle.htl_analyst.specs.TakenEvents.{taken_events}
use Rattle.htl_analyst.proofs.Answered.{are_events_read, sizes_fit_read}
use Rattle.htl_analyst.proofs.analyst.Analyst.objects.Goals as goal

pub returns-clause-number : goal.returns-clause-number
returns-clause-number g c = λ T right.
    let are = are_events_read T _ c.args.self.now _ c.deref.ensures.value c.self.view_is right in
    c.in_ok-objects.ensures.number (taken_events T c.args.self.now) are

pub returns-clause-unbalanced : goal.returns-clause-unbalanced
returns-clause-unbalanced g c = λ T right.
    let are = are_events_read T _ c.args.self.now _ c.deref.ensures.value c.self.view_is right in
    c.in_ok-objects.ensures.unbalanced (taken_events T c.args.self.now) are

pub balances-requires : goal.balances-requires
balances-requires g c = sizes_fit_read _ _ c.deref.ensures.value c.self.invariant
