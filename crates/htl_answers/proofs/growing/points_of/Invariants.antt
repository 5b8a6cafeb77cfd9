-- The points so far are those of the moments that were passed.
use Rattle.std.proofs.Common.{◌≡◌, map, take}
use Rattle.htl_answers.specs.Points.{point_at}
use Rattle.htl_answers.proofs.growing.points_of.Given as goal

abbrev pub invariant-loop-moment : goal.invariant-loop-moment
invariant-loop-moment l = l.rows.items ≡ map (point_at l.lives.starts.items l.lives.ends.items) (take l.moment-index l.moments)
