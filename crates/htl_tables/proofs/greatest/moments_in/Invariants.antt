-- The moments of the lists so far are gathered.
use Rattle.std.proofs.Common.{take}
use Rattle.std.specs.Prelude.{flat_map}
use Rattle.htl_tables.proofs.Moments.{AreMoments}
use Rattle.htl_tables.proofs.greatest.moments_in.Given as goal

abbrev pub invariant-loop-list : goal.invariant-loop-list
invariant-loop-list g l = AreMoments g.K.EventKind.kind (flat_map g.R.EventList.events_of (take l.list-index l.lists)) l.moments.items
