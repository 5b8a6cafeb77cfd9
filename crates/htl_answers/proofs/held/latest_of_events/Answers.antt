-- One event more of the handle is the latest where it is later than that so far.
use Rattle.std.proofs.Common.{◌∷◌, [], ◌++◌, take, sym, ap, ◌∙◌, arith}
use Rattle.std.proofs.lemmas.List.{take_more, take_all}
use Rattle.htl_event.specs.Events.{Event}
use Rattle.htl_tables.proofs.NotingLaws.{keeps_latest}
use Rattle.htl_event.proofs.Members.{Contains-nil}
use Rattle.std.specs.Option.{option_copied}
use Rattle.htl_answers.proofs.held.latest_of_events.Goals as goal

pub loop-event-init : goal.loop-event-init
loop-event-init c = λ x h k. Contains-nil x h

pub loop-event-preserved : goal.loop-event-preserved
loop-event-preserved c =
    let events = c.args.events.now in
    let i = c.loop-event.event-index in
    let e = c.event-item.result in
    let more = take_more events i e c.loop-event-test.true ∙ ap (λ (x : Event). take i events ++ x ∷ []) (sym c.event-item.is) in
    rw (more, c.with_event-latest.ensures) (keeps_latest (take i events) e c.args.process c.args.base
    (option_copied c.loop-event.latest) c.loop-event.invariant)

pub returns : goal.returns
returns c = rw (take_all c.loop-event.event-index c.args.events.now (omega arith)) at c.loop-event.invariant
