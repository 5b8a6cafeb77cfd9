-- The written bytes are the encoding, and as many as were reserved.
use Rattle.std.proofs.Common.{◌≡◌, ◌+◌, ◌*◌, length, sum_by, refl, sym}
use Rattle.htl_event.specs.Events.{Event}
use Rattle.htl_segment.specs.Encoding.{records}
use Rattle.htl_segment.proofs.SegmentLaws.{length-records_exact}
use Rattle.htl_segment.proofs.encoding.encode.Goals as goal

pub returns : goal.returns
returns c =
    let s = c.args.segment.now in
    let fits = c.events-events.ensures.fits in
    let frames : c.frame_count.result ≡ sum_by (λ (e : Event). length e.stack) s.events =
    rw (← c.events-events.ensures.value) c.frame_count.ensures.value in
    let size : 36 * length c.events-events.result.now + 8 * c.frame_count.result ≡ length (records s.events) =
    rw (c.events-events.ensures.value, frames) (sym (length-records_exact s.version s.events 0 fits.events)) in
    record {
      bytes = rw (
        c.in_ok-push_records.ensures,
        c.in_ok-push_header.ensures,
        c.in_ok-out.ensures.items,
        size,
        c.events-events.ensures.value,
      ) refl;
      fits = fits;
    }
