-- The names so far can be read again.
use Rattle.std.proofs.Common.{◌≡◌, All, take, true}
use Rattle.htl_world.specs.Worlds.{of_each}
use Rattle.htl_program.proofs.answering.can_be_read_again.Given as goal

abbrev pub invariant-loop-name : goal.invariant-loop-name
invariant-loop-name g l = record {
  can : All (λ can. can ≡ true) (take l.name-index (of_each (g.W.World.state l.fn.world).known.can_be_read_again l.fn.files));
}
