-- What is kept is enough for the answer, whose basis has the span and the extent that were asked for.
use Rattle.std.proofs.Common.{refl}
use Rattle.htl_event.specs.Moments.{counted_events}
use Rattle.htl_segment.specs.Traces.{all_events}
use Rattle.htl_question.specs.Bases.{basis}
use Rattle.htl_evidence.specs.Outlines.{extent_of}
use Rattle.htl_evidence.proofs.answering.answer.Goals as goal

pub returns : goal.returns
returns g c = λ T until tells.
    let told = c.parts.ensures.told c.args.question T until tells in
    let span = c.span.result in
    let extent = extent_of c.in_ok-extent.field-0 in (
      basis (counted_events until (all_events T.segments)) span extent,
      record {
        events = refl;
        span = λ process points is. c.span.ensures process points T until is tells;
        extent = λ is. c.in_ok-extent.ensures T until is tells;
      },
      told.1.enough span extent _ (record {
        asked = refl;
        since = c.since-since.ensures told.0 (rw c.parts.ensures.parts told.1.are);
        rows = c.in_ok-rows.ensures T until told.0 told.1;
      }),
    )
