-- A call that only reads may be made again where it may be so by itself.
use Rattle.std.proofs.Common.{of_calls}
use denote.Param.Always.{always_mut, mut_by}
use Rattle.allocation_trials.proofs.trials.Trials.reads.Goals as goal

pub changes-requires-clause-make : goal.changes-requires-clause-make
changes-requires-clause-make g c = mut_by _ (λ s. always_mut g.M.FnMut s.0.now) (λ s a i. i) (λ s a r t i e. search of_calls) _ c.requires.make

pub changes-requires-clause-call : goal.changes-requires-clause-call
changes-requires-clause-call g c = mut_by _ (λ s. always_mut g.C.FnMut s.0.now) (λ s a i. i) (λ s a r t i e. search of_calls) _ c.requires.call
