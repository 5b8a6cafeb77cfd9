-- The keeper has what the parts so far took.
use Rattle.std.proofs.Common.{ℕ, List}
use Rattle.htl_reading.specs.Keepers.{TookAll}
use Rattle.htl_reading.specs.Parts.{TookInOrder}
use Rattle.htl_reading.proofs.parts.append_all.Given as goal

abbrev pub invariant-loop-part : goal.invariant-loop-part
invariant-loop-part g l =
    (bytes : List ℕ) → TookInOrder g.K.Keeper.gathers l.fn.keeper l.yielded bytes
    → TookAll g.K.Keeper.gathers l.fn.keeper l.keeper bytes
