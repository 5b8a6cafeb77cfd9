-- What was split off so far was gathered; less is left in each turn.
use Rattle.std.proofs.Common.{length, List, [], ◌++◌}
use Rattle.htl_segment.specs.Content.{Content}
use Rattle.htl_segment.specs.Feeding.{SplitsMore}
use Rattle.htl_segment.proofs.bundle.split.Given as goal

abbrev pub invariant-loop-found : goal.invariant-loop-found
invariant-loop-found g l = record {
  more : List Content;
  splits : SplitsMore l.bytes [] more l.rest;
  gathers : (start : _) (segments : List Content) → g.K.Keeper.gathers start l.fn.keeper segments
      → g.K.Keeper.gathers start l.keeper (segments ++ more);
}

abbrev pub decreases-loop-found : goal.decreases-loop-found
decreases-loop-found g l = length l.rest
