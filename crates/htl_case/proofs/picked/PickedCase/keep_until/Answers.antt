-- The events until the moment are left: of those that are asked about, those of the events until then.
use Rattle.std.proofs.Common.{◌≡◌, ◌∙◌, List, ap, subst, sym}
use Rattle.htl_event.specs.Events.{Event}
use Rattle.htl_event.specs.Moments.{counted_events}
use Rattle.htl_segment.specs.Picks.{events_in}
use Rattle.htl_case.specs.Picked.{Picked, IsPickedUntil, picked}
use Rattle.htl_case.proofs.Pickings.{picked_until}
use Rattle.htl_case.proofs.picked.PickedCase.keep_until.Goals as goal

pub returns-in-Some-clause-value : goal.returns-in-Some-clause-value
returns-in-Some-clause-value c =
    let inside = c.self.inside in
    let kept : events_in c.drop_all_after.new.lists.items ≡ counted_events c.args.until (events_in inside.lists.items) =
    rw c.in-Some.is c.drop_all_after.ensures in
    ap (λ (es : List Event). picked inside.processors inside.outlines.items es) kept
    ∙ ap (λ (p : Picked). picked p.processors p.outlines (counted_events c.args.until p.events)) c.self.view_is

pub returns-in-Some-clause-until : goal.returns-in-Some-clause-until
returns-in-Some-clause-until c = λ interest T of.
    subst (λ (p : Picked). IsPickedUntil interest T c.args.until p) (sym (returns-in-Some-clause-value c))
    (picked_until interest T c.args.until c.args.self.now of)
