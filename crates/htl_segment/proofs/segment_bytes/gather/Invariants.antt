-- The events so far, those that wait and the records left are all records.
use Rattle.std.proofs.Common.{◌≡◌, ◌++◌, map}
use Rattle.htl_segment.specs.Records.{event_of}
use Rattle.htl_segment.proofs.segment_bytes.gather.Given as goal

abbrev pub invariant-loop-record : goal.invariant-loop-record
invariant-loop-record l = l.events.items ++ (map event_of l.batch.items ++ l.record-iterator) ≡ l.fn.records
