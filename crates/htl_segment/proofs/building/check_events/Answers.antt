-- The first fault of events is that of the first event that has one.
use Rattle.std.proofs.Common.{◌≡◌, take, take_all}
use Rattle.std.proofs.lemmas.List.Elements.{All-more}
use Rattle.std.proofs.lemmas.Result.{err_from_is_err_and}
use Rattle.htl_event.specs.Ranges.{InRange}
use Rattle.htl_segment.proofs.BuildingLaws.{goes_on, stops, is_done}
use Rattle.htl_segment.proofs.building.check_events.Goals as goal

pub returns-in_err-check_event-clause-fault : goal.returns-in_err-check_event-clause-fault
returns-in_err-check_event-clause-fault c =
    let p = err_from_is_err_and c.from_residual.result c.from_residual.ensures.1 in
    rw (p.1, p.2) (stops c.args.version c.loop-place.place c.loop-place.last c.args.events.now c.index-events-place.result _
    c.in_err-check_event.field-0.0 c.loop-place-test.true c.index-events-place.is c.in_err-check_event.ensures.fault
    c.loop-place.invariant.so_far)

pub loop-place-preserved : goal.loop-place-preserved
loop-place-preserved c = record {
  so_far = goes_on c.args.version c.loop-place.place c.loop-place.last c.args.events.now c.index-events-place.result _
      c.loop-place-test.true c.index-events-place.is c.in_ok-check_event.ensures.fault c.loop-place.invariant.so_far;
  in_range = All-more InRange c.args.events.now c.loop-place.place c.index-events-place.result c.loop-place-test.true
      c.loop-place.invariant.in_range (rw (← c.index-events-place.is) c.in_ok-check_event.ensures.in_range);
}

pub returns-clause-fault : goal.returns-clause-fault
returns-clause-fault c =
    is_done c.args.version c.loop-place.place c.loop-place.last c.args.events.now _ c.loop-place-test.false c.loop-place.invariant.so_far

pub returns-clause-in_range : goal.returns-clause-in_range
returns-clause-in_range c =
    let whole : take c.loop-place.place c.args.events.now ≡ c.args.events.now =
    take_all c.loop-place.place c.args.events.now c.loop-place-test.false in
    rw whole at c.loop-place.invariant.in_range
