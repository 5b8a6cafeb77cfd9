-- The sequence of the last event, or 0 where there is none, is the greatest of its segment.
use Rattle.std.proofs.Common.{◌≡◌, ◌-◌, length, Some, sym, inr, refl, arith}
use Rattle.std.specs.Prelude.{slice_get}
use Rattle.std.proofs.lemmas.Option.{slice_get_within}
use Rattle.htl_segment.proofs.Spans.{at_place, greatest_last}
use Rattle.htl_segment.proofs.rising.last_sequence.Goals as goal

pub returns-in-Some : goal.returns-in-Some
returns-in-Some c =
    let s = c.args.segment.now in
    let last = c.in-Some.last.now in
    let at_last : slice_get s.events (length s.events - 1) ≡ Some last =
    rw (c.events.ensures.value) at (sym c.in-Some.ensures.value) in
    let within = slice_get_within s.events (length s.events - 1) last at_last in
    record {
      bound = greatest_last s.version 0 s.events (length s.events - 1) last c.events.ensures.fits.events (omega (arith, within)) at_last;
      reached = inr (last, at_place s.events (length s.events - 1) last at_last, refl);
    }
