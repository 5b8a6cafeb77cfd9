-- The copy has the addresses that were passed so far.
use Rattle.std.proofs.Common.{◌≡◌, ◌≤◌, length, take}
use Rattle.htl_event.proofs.stack.Stack.copy.Given as goal

abbrev pub invariant-loop-frame : goal.invariant-loop-frame
invariant-loop-frame l = (l.frames.items ≡ take l.frame-index l.frame-items) × (length l.frame-items ≤ 64)
