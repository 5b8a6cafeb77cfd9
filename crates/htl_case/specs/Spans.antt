-- The first and the last sequence of events (this project's own).
use Rattle.std.specs.Prelude.{◌≡◌, ◌≤◌, List, [], Option, Some, None, Contains}
use Rattle.htl_event.specs.Events.{Event}
use Rattle.htl_event.specs.declared.growth.Span.{Span}

-- the first and the last are sequences of events, and no event is before the first or after the last
pub record IsSpanOf (events : List Event) (span : Span) : Type 0 where
  pub has_first : (e : Event) × Contains events e × (e.sequence ≡ span.first)
  pub has_last : (e : Event) × Contains events e × (e.sequence ≡ span.last)
  pub between : (e : Event) → Contains events e → (span.first ≤ e.sequence) × (e.sequence ≤ span.last)

-- Span: the first and the last sequence, or none where there is no event.
abbrev pub IsSpan : List Event → Option Span → Type 0
IsSpan events None = events ≡ []
IsSpan events (Some span) = IsSpanOf events span
