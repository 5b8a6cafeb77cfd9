-- The keys of the analyst and of the rest are those that were there, and both stay right.
use Rattle.std.proofs.Common.{◌⊎◌, ℕ, vec_len}
use Rattle.std.specs.Prelude.{Contains, ◌↔◌}
use Rattle.htl_segment.specs.Content.{Content}
use Rattle.htl_segment.specs.Traces.{Trace}
use Rattle.htl_analyst.specs.Keys.{HasTaken}
use Rattle.htl_analyst.specs.Right.{IsRight}
use Rattle.htl_exchange.specs.Parcels.{HasSegment}
use Rattle.htl_exchange.proofs.taking.take_run.Given as goal

abbrev pub invariant-loop-segment : goal.invariant-loop-segment
invariant-loop-segment l =
    ((s : Content) → Contains l.rest.items s → Contains l.initial.rest.items s)
    × ((p n : ℕ) → (HasTaken l.analyst p n ⊎ HasSegment l.rest.items p n) ↔ (HasTaken l.initial.analyst p n ⊎ HasSegment l.initial.rest.items p n))
    × ((T : Trace) → IsRight l.initial.analyst T → ((s : Content) → Contains l.initial.rest.items s → Contains T.segments s) → IsRight l.analyst T)
    × ((p n : ℕ) → HasTaken l.initial.analyst p n → HasTaken l.analyst p n)

abbrev pub decreases-loop-segment : goal.decreases-loop-segment
decreases-loop-segment l = vec_len l.rest
