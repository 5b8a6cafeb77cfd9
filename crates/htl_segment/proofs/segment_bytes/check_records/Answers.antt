-- The first fault of records is that of the first record that has one.
use Rattle.std.proofs.Common.{◌≡◌, true, false, sym, ap, ◌∙◌}
use Rattle.std.proofs.lemmas.Result.{err_from_is_err_and}
use Rattle.htl_event.specs.Events.{Event}
use Rattle.htl_segment.specs.Numbers.{number}
use Rattle.htl_segment.specs.Reading.{event_in}
use Rattle.htl_segment.proofs.RecordLaws.{has_record}
use Rattle.htl_segment.proofs.RecordByRecord.{goes_on, stops, is_done}
use Rattle.htl_segment.proofs.segment_bytes.check_records.Goals as goal

pub returns-in_err-check_record : goal.returns-in_err-check_record
returns-in_err-check_record c =
    let p = err_from_is_err_and c.from_residual.result c.from_residual.ensures.1 in
    rw (p.1, p.2) (stops c.args.version c.args.count c.loop-place.place c.loop-place.last c.loop-place.rest.now _
    c.in_err-check_record.field-0.0 c.loop-place-test.true c.in_err-check_record.ensures c.loop-place.invariant)

pub split-requires : goal.split-requires
split-requires c =
    has_record c.args.version c.loop-place.place c.loop-place.last c.loop-place.rest.now c.in_ok-check_record.ensures

pub loop-place-preserved : goal.loop-place-preserved
unfolding event_in
loop-place-preserved c =
    let last : c.split.result.0.sequence ≡ number 0 8 c.loop-place.rest.now = ap (λ (e : Event). e.sequence) c.split.ensures.event in
    rw (last, c.split.ensures.rest) (goes_on c.args.version c.args.count c.loop-place.place c.loop-place.last c.loop-place.rest.now _
    c.loop-place-test.true c.in_ok-check_record.ensures c.loop-place.invariant)

pub returns-then-not-is_empty : goal.returns-then-not-is_empty
returns-then-not-is_empty c =
    is_done c.args.version c.args.count c.loop-place.place c.loop-place.last c.loop-place.rest.now _ false c.loop-place-test.false
    (sym c.is_empty.ensures ∙ c.if-not-is_empty.true) c.loop-place.invariant

pub returns : goal.returns
returns c =
    is_done c.args.version c.args.count c.loop-place.place c.loop-place.last c.loop-place.rest.now _ true c.loop-place-test.false
    (sym c.is_empty.ensures ∙ c.if-not-is_empty.false) c.loop-place.invariant
