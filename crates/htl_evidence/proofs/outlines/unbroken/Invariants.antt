-- No segment so far is missing, and the first that is missing is that of what is left.
use Rattle.std.proofs.Common.{◌≡◌, drop}
use Rattle.htl_taken.specs.Rising.{reach_from}
use Rattle.htl_evidence.specs.Outlines.{numbers_of}
use Rattle.htl_evidence.proofs.outlines.unbroken.Given as goal

abbrev pub invariant-loop-place : goal.invariant-loop-place
invariant-loop-place l = reach_from l.place (numbers_of (drop l.place l.own)) ≡ reach_from 0 (numbers_of l.own)
