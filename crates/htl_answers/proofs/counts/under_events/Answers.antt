-- The count gains one where one event more is counted under the path.
use Rattle.std.proofs.Common.{◌∷◌, [], ◌++◌, take, sym, ap, ◌∙◌, arith}
use Rattle.std.proofs.lemmas.List.{take_more, take_all}
use Rattle.htl_event.specs.Events.{Event}
use Rattle.htl_event.specs.Tallies.{total_of}
use Rattle.htl_event.proofs.Counts.{counts_add_up}
use Rattle.htl_answers.proofs.counts.under_events.Goals as goal

pub sum_of-sum-requires : goal.sum_of-sum-requires
sum_of-sum-requires c = omega (arith, c.requires, c.loop-event.invariant.few, c.under_event.ensures.few, c.loop-event-test.true)

pub loop-event-preserved : goal.loop-event-preserved
loop-event-preserved c =
    let events = c.args.events.now in
    let i = c.loop-event.event-index in
    let e = c.event-item.result in
    let path = c.args.path.now in
    let slot = c.args.slot in
    let more = take_more events i e c.loop-event-test.true ∙ ap (λ (x : Event). take i events ++ x ∷ []) (sym c.event-item.is) in
    let adds = (counts_add_up (take i events) (e ∷ [])).under path slot in
    let total = ap total_of c.sum_of-sum.ensures in
    record {
      value = rw (more, adds, c.sum_of-sum.ensures, c.under_event.ensures.value, c.loop-event.invariant.value);
      few = omega (arith, total, c.loop-event.invariant.few, c.under_event.ensures.few);
    }

pub returns : goal.returns
returns c = record {
  value = rw (take_all c.loop-event.event-index c.args.events.now (omega arith)) at c.loop-event.invariant.value;
  few = omega (arith, c.loop-event.invariant.few);
}
