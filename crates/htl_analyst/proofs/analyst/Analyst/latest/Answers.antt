-- The parts answer for the taken events, none of which opens or closes base 0.
use Rattle.std.proofs.Common.{inl, inr}
use Rattle.std.proofs.lemmas.Bool.{cases_eq}
use Rattle.htl_event.specs.Slots.{base_of}
use Rattle.htl_analyst.specs.TakenEvents.{taken_events}
use Rattle.htl_analyst.proofs.Answered.{are_events_read, latest_of_base_0}
use Rattle.htl_analyst.proofs.analyst.Analyst.latest.Goals as goal

pub returns : goal.returns
returns g c = λ T right.
    let a = c.args.self.now in
    let are = are_events_read T _ a _ c.deref.ensures.value c.self.view_is right in
    elim (cases_eq (base_of c.args.handle) 0) [
      | inl zero_is ↦ latest_of_base_0 T a right c.args.process c.args.handle c.latest.result zero_is (c.latest.ensures.zero zero_is)
      | inr ne ↦ c.latest.ensures.value ne (taken_events T a) are
    ]
