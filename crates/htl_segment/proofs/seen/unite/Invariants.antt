-- So far the marks below a place were added.
use Rattle.htl_segment.proofs.SeenLaws.{AreUnited}
use Rattle.htl_segment.proofs.seen.unite.Given as goal

abbrev pub invariant-loop-place : goal.invariant-loop-place
invariant-loop-place l = AreUnited l.initial.marks l.more l.marks l.place l.is_twice
