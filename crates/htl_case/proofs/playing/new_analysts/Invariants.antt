-- So far there are as many new analysts as there were turns.
use Rattle.std.proofs.Common.{◌≡◌, replicate}
use Rattle.htl_analyst.specs.Steps.{new_state}
use Rattle.htl_case.proofs.playing.new_analysts.Given as goal

abbrev pub invariant-loop : goal.invariant-loop
invariant-loop l = l.new.items ≡ replicate l.counter (new_state l.case.id l.case.processors)
