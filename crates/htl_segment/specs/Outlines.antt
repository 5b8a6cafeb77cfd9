-- What is kept of a segment beside its events (this project's own): its trace, its key, and where its sequences begin and end.
use Rattle.std.specs.Prelude.{ℕ, List, [], ◌∷◌}
use Rattle.htl_event.specs.Events.{Event}
use Rattle.htl_segment.specs.Content.{Content}
use Rattle.htl_segment.specs.declared.outline.Outline.{Outline}

-- the sequence of the first event, 0 where there is none
abbrev pub first_sequence : List Event → ℕ
first_sequence [] = 0
first_sequence (e ∷ es) = e.sequence

-- the sequence of the last event, or this number where there is none
abbrev pub last_sequence : ℕ → List Event → ℕ
last_sequence last [] = last
last_sequence last (e ∷ es) = last_sequence e.sequence es

abbrev pub outline_of : Content → Outline
outline_of s = record {
  trace_id = s.trace_id;
  processors = s.processors;
  processor = s.processor;
  number = s.number;
  first = first_sequence s.events;
  last = last_sequence 0 s.events;
}
