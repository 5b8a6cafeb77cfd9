-- The records of the events so far are written.
use Rattle.std.proofs.Common.{◌≡◌, ◌++◌, take}
use Rattle.htl_segment.specs.Encoding.{records}
use Rattle.htl_segment.proofs.encoding.push_records.Given as goal

abbrev pub invariant-loop-event : goal.invariant-loop-event
invariant-loop-event l = l.out.items ≡ l.fn.out.items ++ records (take l.event-index l.events)
