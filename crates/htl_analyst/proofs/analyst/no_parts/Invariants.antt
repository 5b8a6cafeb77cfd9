-- So far each part that was made has nothing.
use Rattle.std.proofs.Common.{◌≡◌, replicate}
use Rattle.htl_analyst.specs.States.{no_part}
use Rattle.htl_analyst.proofs.analyst.no_parts.Given as goal

abbrev pub invariant-loop : goal.invariant-loop
invariant-loop g l = l.parts.items ≡ replicate l.counter no_part
