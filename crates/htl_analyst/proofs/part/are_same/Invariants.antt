-- The lists agree at the places so far.
use Rattle.std.proofs.Common.{◌≡◌, ◌<◌, ℕ, get_or}
use Rattle.htl_segment.specs.Content.{Content}
use Rattle.htl_analyst.proofs.part.are_same.Given as goal

abbrev pub invariant-loop-place : goal.invariant-loop-place
invariant-loop-place l = (k : ℕ) (d : Content) → k < l.place → get_or l.segments k d ≡ get_or l.others k d
