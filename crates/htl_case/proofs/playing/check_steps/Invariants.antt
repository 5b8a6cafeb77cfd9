-- No step that was gone through is faulty.
use Rattle.htl_case.proofs.FirstFaults.{NoneBefore}
use Rattle.htl_case.proofs.playing.check_steps.Given as goal

abbrev pub invariant-loop-place : goal.invariant-loop-place
invariant-loop-place l = NoneBefore l.analysts l.segments l.steps l.place
