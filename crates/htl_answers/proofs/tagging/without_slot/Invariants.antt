-- The rows of slots and stacks so far stand there without their slot.
use Rattle.std.proofs.Common.{◌≡◌, map, take}
use Rattle.htl_answers.proofs.SlotLists.{strip}
use Rattle.htl_answers.proofs.tagging.without_slot.Given as goal

abbrev pub invariant-loop-stack : goal.invariant-loop-stack
invariant-loop-stack l = l.rows.items ≡ map strip (take l.stack-index l.counts)
