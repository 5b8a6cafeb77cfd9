-- Rows by process.
use Rattle.std.specs.Prelude.{ℕ, ◌<◌, ◌≤◌, List, length, slice_index_or}
use Rattle.htl_event.specs.Events.{Event}

-- no row has a lower process than a row before it
abbrev pub AreByProcess : List Event → Type 0
AreByProcess rows = (i j : ℕ) (d : Event) → i ≤ j → j < length rows → (slice_index_or rows i d).process ≤ (slice_index_or rows j d).process
