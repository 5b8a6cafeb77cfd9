-- What answers are about: the events of the segments that were taken.
use Rattle.std.specs.Prelude.{ℕ, ◌+◌, List, length}
use Rattle.htl_event.specs.Events.{Event}
use Rattle.htl_segment.specs.Traces.{Trace, all_events, events_of}
use Rattle.htl_answers.specs.Parts.{Contents}
use Rattle.htl_analyst.specs.States.{Part, State}
use Rattle.htl_analyst.specs.Keys.{keys}

-- the trace's events of the taken keys
abbrev pub taken_events : Trace → State → List Event
taken_events T a = events_of (keys a) T.segments

-- what is kept of a processor, as the contents of a part over which `htl_answers` answers
abbrev pub contents_of : Part → Contents
contents_of k = record {
  tree = k.folded.tree;
  latest = k.folded.latest;
  marks = k.folded.marks;
  exits = k.folded.exits;
  held = all_events k.held;
}

-- the number of a processor's events, of those that were folded and those that are held
abbrev pub events_kept : Part → ℕ
events_kept k = k.folded.events + length (all_events k.held)
