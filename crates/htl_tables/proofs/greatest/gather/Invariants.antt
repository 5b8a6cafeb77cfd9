-- The moments of the events so far came to those that were there.
use Rattle.std.proofs.Common.{take}
use Rattle.htl_tables.proofs.Moments.{AreMoreMoments}
use Rattle.htl_tables.proofs.greatest.gather.Given as goal

abbrev pub invariant-loop-event : goal.invariant-loop-event
invariant-loop-event g l = AreMoreMoments g.K.EventKind.kind l.initial.moments.items (take l.event-index l.events) l.moments.items
