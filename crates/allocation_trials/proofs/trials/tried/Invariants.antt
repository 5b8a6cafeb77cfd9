-- Both closures, the one that makes and the one that calls, may be called again.
use Rattle.allocation_trials.proofs.trials.tried.Given as goal

abbrev pub invariant-loop-allocation : goal.invariant-loop-allocation
invariant-loop-allocation g l = goal.M-IsAlwaysCallable g l.make × goal.C-IsAlwaysCallable g l.call
