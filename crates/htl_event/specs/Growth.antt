-- How many handles of a process are open as of each of several moments (this project's own): whether a number grows.
use Rattle.std.specs.Prelude.{◌≡◌, ℕ, ◌+◌, ◌-◌, ◌*◌, ◌/◌, ◌<◌, max, List, [], Option, Some, None}
use Rattle.htl_event.specs.Events.{Event}
use Rattle.htl_event.specs.declared.growth.Point.{Point}
use Rattle.htl_event.specs.declared.growth.Span.{Span}
use Rattle.htl_event.specs.Members.{Lists}
use Rattle.htl_event.specs.Moments.{events_until}
use Rattle.htl_event.specs.Summaries.{HasOutstanding}

-- moment i of `points` moments at even distances, rounded down: the first is the span's first, the last its last; a single one is the first
abbrev pub moment_at : Span → ℕ → ℕ → ℕ
moment_at span points i = span.first + i * (span.last - span.first) / max 1 (points - 1)

abbrev pub IsMomentOf : Span → ℕ → ℕ → Type 0
IsMomentOf span points moment = (i : ℕ) × (i < points) × (moment ≡ moment_at span points i)

-- Point: one of the moments, and how many handles of the process were open as of it.
pub record IsPoint (span : Span) (points : ℕ) (events : List Event) (process : ℕ) (point : Point) : Type 0 where
  pub moment : IsMomentOf span points point.sequence
  pub handles : HasOutstanding (events_until point.sequence events) process point.outstanding

abbrev pub EarlierFirst : Point → Point → Type 0
EarlierFirst a b = a.sequence < b.sequence

-- Growth: a point for each moment of the span, each once, the earliest first; none where there is no span.
abbrev pub IsGrowth : Option Span → ℕ → List Event → ℕ → List Point → Type 0
IsGrowth None points events process rows = rows ≡ []
IsGrowth (Some span) points events process rows = Lists EarlierFirst (IsPoint span points events process) rows
