-- The rows so far are those of the counts that were passed and are great enough.
use Rattle.std.proofs.Common.{◌≡◌, map, take}
use Rattle.std.specs.Prelude.{filter}
use Rattle.htl_answers.specs.Leaks.{opens_many, counted_first}
use Rattle.htl_answers.proofs.leaking.number_first.Given as goal

abbrev pub invariant-loop-stack : goal.invariant-loop-stack
invariant-loop-stack l = l.rows.items ≡ map counted_first (filter (opens_many l.at_least) (take l.stack-index l.counts))
