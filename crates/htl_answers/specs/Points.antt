-- The points of a growth.
use Rattle.std.specs.Prelude.{ℕ, List}
use Rattle.htl_event.specs.declared.growth.Point.{Point}
use Rattle.htl_answers.specs.Lives.{number_at}

-- a moment, and how many lives had begun up to it and not ended
abbrev pub point_at : List ℕ → List ℕ → ℕ → Point
point_at starts ends moment = record { sequence = moment; outstanding = number_at starts ends moment }
