-- Numbers that come twice, and the sequences of events.
use Rattle.std.specs.Prelude.{ℕ, ◌==◌, List, count_by, map}
use Rattle.htl_event.specs.Events.{Event}

abbrev pub sequence_of : Event → ℕ
sequence_of e = e.sequence

abbrev pub sequences_of : List Event → List ℕ
sequences_of events = map sequence_of events

-- at how many places of the list a number is
abbrev pub times : ℕ → List ℕ → ℕ
times x xs = count_by (λ y. y == x) xs
