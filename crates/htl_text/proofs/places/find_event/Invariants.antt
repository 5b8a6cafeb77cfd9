-- The event is the one at the place that is left, among those of the lines that are left, and no more lines were read than bytes.
use Rattle.std.proofs.Common.{◌≡◌, ◌≤◌, ◌+◌, length}
use Rattle.htl_text.specs.Lines.{lines_of_text}
use Rattle.htl_text.proofs.EventLines.{place_in}
use Rattle.htl_text.proofs.places.find_event.Given as goal

abbrev pub invariant-loop-rest : goal.invariant-loop-rest
invariant-loop-rest l = record {
  same : place_in l.segment 0 l.place (lines_of_text l.text) ≡ place_in l.segment l.number l.left (lines_of_text l.rest);
  few : l.number + length l.rest ≤ length l.text;
}

abbrev pub decreases-loop-rest : goal.decreases-loop-rest
decreases-loop-rest l = length l.rest
