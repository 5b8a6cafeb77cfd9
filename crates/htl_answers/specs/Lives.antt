-- When handles of a process were opened, and when they ceased to be open.
use Rattle.std.specs.Prelude.{ℕ, ◌-◌, ◌≤◌, min, nat_lt, nat_le, Bool, true, false, ◌&&◌, ◌==◌, if◌then◌else◌}
use Rattle.std.specs.Prelude.{List, [], ◌∷◌, Option, Some, None, option_and_then, slice_get, count_by}
use Rattle.std.specs.List.{filter_map, cons_option}
use Rattle.std.specs.List.Sorted.{IsNonDecreasing}
use Rattle.htl_event.specs.Events.{Event}
use Rattle.htl_event.specs.declared.kind.Kind.{Kind}
use Rattle.htl_event.specs.declared.kind.Kind.TheVariants.{Exited}
use Rattle.htl_event.specs.Slots.{base_of}
use Rattle.htl_event.specs.Handles.{opens_or_closes}
use Rattle.htl_answers.specs.declared.lives.Change.{Change}
use Rattle.htl_answers.specs.Open.{is_open_kind}

-- ---- what events did with handles

-- an event as an open or a close of its base handle
abbrev pub as_change : Event → Change
as_change e = record { base = base_of e.handle; sequence = e.sequence; opens = is_open_kind e.kind }

-- the open or close of a handle of the process that the event is, if it is one
abbrev pub change_of : ℕ → Event → Option Change
change_of process e = if opens_or_closes e.kind && e.process == process then Some (as_change e) else None

abbrev pub changes_of : ℕ → List Event → List Change
changes_of process events = filter_map (change_of process) events

abbrev pub is_exit : Kind → Bool
is_exit Exited = true
is_exit other = false

-- the sequence of the event, if it is an exit of the process
abbrev pub exit_of : ℕ → Event → Option ℕ
exit_of process e = if is_exit e.kind && e.process == process then Some e.sequence else None

abbrev pub exits_of : ℕ → List Event → List ℕ
exits_of process events = filter_map (exit_of process) events

-- ---- numbers of sequences

-- how many of the sequences come no later than the moment
abbrev pub number_to : List ℕ → ℕ → ℕ
number_to sequences moment = count_by (λ sequence. nat_le sequence moment) sequences

-- how many lives had begun up to the moment, less how many had ended
abbrev pub number_at : List ℕ → List ℕ → ℕ → ℕ
number_at starts ends moment = number_to starts moment - number_to ends moment

-- Both lists are in order, and up to no moment more lives end than begin.
pub record AreInOrder (starts ends : List ℕ) : Type 0 where
  pub starts_rise : IsNonDecreasing starts
  pub ends_rise : IsNonDecreasing ends
  pub fewer : (moment : ℕ) → number_to ends moment ≤ number_to starts moment

-- ---- lives, where the changes are in the order of handles, those of one handle in the order of sequences

-- when a handle was opened, if the change did it, and not at sequence 0
abbrev pub start_of : Change → Option ℕ
start_of change = if change.opens && nat_lt 0 change.sequence then Some change.sequence else None

-- when the same handle was opened or closed next
abbrev pub next_of : Change → List Change → Option ℕ
next_of change [] = None
next_of change (next ∷ later) = if next.base == change.base then Some next.sequence else None

-- the first of the exits, which are in order, after the moment
abbrev pub first_after : List ℕ → ℕ → Option ℕ
first_after exits moment = slice_get exits (number_to exits moment)

abbrev pub earlier_of : Option ℕ → Option ℕ → Option ℕ
earlier_of None b = b
earlier_of (Some a) None = Some a
earlier_of (Some a) (Some b) = Some (min a b)

-- when the handle that the change opened ceased to be open, if it did
abbrev pub end_of : List ℕ → Change → List Change → Option ℕ
end_of exits change later =
    option_and_then (λ start. earlier_of (next_of change later) (first_after exits start)) (start_of change)

abbrev pub ends_of : List ℕ → List Change → List ℕ
ends_of exits [] = []
ends_of exits (change ∷ later) = cons_option (end_of exits change later) (ends_of exits later)
