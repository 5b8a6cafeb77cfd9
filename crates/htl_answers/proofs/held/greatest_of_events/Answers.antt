-- The greatest sequence rises to that of one event more, where this is of the kind and process.
use Rattle.std.proofs.Common.{◌∷◌, [], ◌++◌, take, refl, sym, ap, ◌∙◌, arith, inl}
use Rattle.std.proofs.lemmas.List.{take_more, take_all}
use Rattle.htl_event.specs.Events.{Event}
use Rattle.htl_tables.proofs.NotingLaws.{keeps_greatest}
use Rattle.htl_event.proofs.Members.{Contains-nil}
use Rattle.std.proofs.lemmas.Bool.{both_ways}
use Rattle.htl_answers.proofs.held.greatest_of_events.Goals as goal
use Rattle.htl_answers.proofs.held.greatest_of_events.Goals.{then-is_of, else-is_of}
use Rattle.htl_answers.proofs.Appended.{nat_max}

pub loop-event-init : goal.loop-event-init
loop-event-init c = record { bound = λ x h. absurd (Contains-nil x h.0); reached = inl refl }

pub loop-event-preserved : goal.loop-event-preserved
loop-event-preserved c =
    let events = c.args.events.now in
    let i = c.loop-event.event-index in
    let e = c.event-item.result in
    let more = take_more events i e c.loop-event-test.true ∙ ap (λ (x : Event). take i events ++ x ∷ []) (sym c.event-item.is) in
    let keeps = keeps_greatest (take i events) e in
    elim c.if-is_of.branch [
      | then-is_of w ↦ rw (more, w.greatest-is, w.max-greatest.ensures, nat_max)
          (keeps.noted c.args.kind c.args.process c.loop-event.greatest c.loop-event.invariant (c.is_of.ensures.0 w.if-is_of.true))
      | else-is_of w ↦ rw (more, w.greatest-is)
          (keeps.others c.args.kind c.args.process c.loop-event.greatest c.loop-event.invariant
          (λ is. both_ways c.is_of.result w.if-is_of.false (c.is_of.ensures.1 is)))
    ]

pub returns : goal.returns
returns c = rw (take_all c.loop-event.event-index c.args.events.now (omega arith)) at c.loop-event.invariant
