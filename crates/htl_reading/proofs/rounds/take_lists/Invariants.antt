-- The keeper took the segments of the lists so far, and the keepers that gave them have none left.
use Rattle.std.proofs.Common.{◌≡◌, ℕ, List, []}
use Rattle.htl_segment.specs.declared.keeper.Segments.{Segments}
use Rattle.htl_reading.specs.Keepers.{TookAll}
use Rattle.htl_reading.specs.Parts.{AreEmpty, TookInOrder}
use Rattle.htl_reading.proofs.RoundLaws.{lists_of}
use Rattle.htl_reading.proofs.rounds.take_lists.Given as goal

abbrev pub invariant-loop-segments : goal.invariant-loop-segments
invariant-loop-segments g l = record {
  taken : (none : Segments) (bytes : List ℕ) → none.list.items ≡ [] → TookInOrder lists_of none l.yielded bytes
      → TookAll g.K.Keeper.gathers l.fn.keeper l.keeper bytes;
  emptied : AreEmpty l.emptied.items;
}
