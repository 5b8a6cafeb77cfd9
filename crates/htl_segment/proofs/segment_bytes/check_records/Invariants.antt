-- The records tested so far have no fault, so the question is left to those after them.
use Rattle.std.proofs.Common.{◌≡◌, ◌-◌}
use Rattle.htl_segment.specs.Faults.{records_fault}
use Rattle.htl_segment.proofs.segment_bytes.check_records.Given as goal

abbrev pub invariant-loop-place : goal.invariant-loop-place
invariant-loop-place l = records_fault l.version (l.count - l.place) l.place l.last l.rest ≡ records_fault l.version l.count 0 0 l.body
