-- So far the sequences of the events that were gone through were put after those that were there.
use Rattle.std.proofs.Common.{◌≡◌, ◌++◌, map, take}
use Rattle.htl_segment.specs.Repeated.{sequence_of}
use Rattle.htl_case.proofs.sequences.push_sequences.Given as goal

abbrev pub invariant-loop-event : goal.invariant-loop-event
invariant-loop-event l = l.sequences.items ≡ l.initial.sequences.items ++ map sequence_of (take l.event-index l.events)
