-- The rows so far have the stack first and then the number.
use Rattle.std.proofs.Common.{◌≡◌, map, take}
use Rattle.htl_answers.specs.Leaks.{stack_before_number}
use Rattle.htl_answers.proofs.leaking.stack_first.Given as goal

abbrev pub invariant-loop-number : goal.invariant-loop-number
invariant-loop-number l = l.rows.items ≡ map stack_before_number (take l.number-index l.leaks)
