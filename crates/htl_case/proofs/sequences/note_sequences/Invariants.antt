-- So far the sequences of the events that were gone through were seen after those before.
use Rattle.std.proofs.Common.{ℕ, List, ◌++◌, map, take}
use Rattle.htl_segment.specs.Repeated.{sequence_of}
use Rattle.htl_segment.specs.Seen.{Saw}
use Rattle.htl_case.proofs.sequences.note_sequences.Given as goal

abbrev pub invariant-loop-event : goal.invariant-loop-event
invariant-loop-event l = (numbers : List ℕ) → Saw l.initial.seen numbers
    → Saw l.seen (numbers ++ map sequence_of (take l.event-index l.events))
