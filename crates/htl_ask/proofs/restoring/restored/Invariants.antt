-- The states so far were read and merged, so what was folded is of what they tell.
use Rattle.std.proofs.Common.{map, string_bytes, take}
use Rattle.htl_ask.proofs.RestoringLaws.{AreRestored}
use Rattle.htl_ask.proofs.restoring.restored.Given as goal

abbrev pub invariant-loop-place : goal.invariant-loop-place
invariant-loop-place g l = record {
  so_far : AreRestored (g.W.World.state l.fn.world) (g.W.World.state l.world) (take l.place (map string_bytes l.fn.names)) l.folded;
}
