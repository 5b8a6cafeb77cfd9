-- Of which rows a table of greatest sequences is made.
use Rattle.std.specs.Prelude.{◌≡◌, ℕ, ◌<◌}
use Rattle.htl_event.specs.Events.{Event}
use Rattle.htl_event.specs.declared.kind.Kind.{Kind}

-- some event of the kind has this process and this sequence, which is above 0
pub record IsMoment (among : Event → Type 0) (kind : Kind) (row : ℕ × ℕ) : Type 0 where
  pub event : Event
  pub here : among event
  pub kind_is : event.kind ≡ kind
  pub is : row ≡ (event.process, event.sequence)
  pub positive : 0 < event.sequence
