-- The events so far, and those wanted of the records left, are the events before and those wanted of all; the sequences
-- so far were seen, and the last of them is known.
use Rattle.std.proofs.Common.{◌≡◌, ◌++◌, List, ℕ, map}
use Rattle.htl_event.specs.Interests.{wanted}
use Rattle.htl_segment.specs.Outlines.{last_sequence}
use Rattle.htl_segment.specs.Records.{event_of}
use Rattle.htl_segment.specs.Repeated.{sequences_of}
use Rattle.htl_segment.specs.Seen.{Saw}
use Rattle.htl_segment.proofs.segment_bytes.pick.Given as goal

abbrev pub invariant-loop-record : goal.invariant-loop-record
invariant-loop-record l = record {
  events : l.events.items ++ (map event_of l.batch.items ++ wanted l.interest l.record-iterator)
      ≡ l.fn.events.items ++ wanted l.interest l.fn.records;
  taken : List ℕ;
  all : taken ++ sequences_of l.record-iterator ≡ sequences_of l.fn.records;
  saw : (numbers : List ℕ) → Saw l.fn.seen numbers → Saw l.seen (numbers ++ taken);
  last : last_sequence l.last l.record-iterator ≡ last_sequence 0 l.fn.records;
}
