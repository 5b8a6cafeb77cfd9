-- The segments that are left are new, and with them the analyst has taken all.
use Rattle.std.proofs.Common.{◌≡◌, drop}
use Rattle.htl_analyst.specs.Restored.{AreNew, with_segments}
use Rattle.htl_saved.proofs.holding.take_all.Given as goal

abbrev pub invariant-loop-segment : goal.invariant-loop-segment
invariant-loop-segment l =
    AreNew l.analyst (drop l.segment-index l.segments)
    × (with_segments l.analyst (drop l.segment-index l.segments) ≡ with_segments l.initial.analyst l.segments)
