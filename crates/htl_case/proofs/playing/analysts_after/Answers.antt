-- Each step keeps each analyst right, and brings its keys to those that reached it.
use Rattle.std.proofs.Common.{sym, ◌∙◌, length, get_or, drop}
use Rattle.htl_case.specs.declared.step.Step.TheVariants.{Take}
use Rattle.htl_case.specs.Changes.{IsTriedStep}
use Rattle.htl_case.proofs.Stepped.{tried_right}
use Rattle.htl_case.proofs.Histories.{new_right, new_keys}
use Rattle.htl_case.proofs.Played.{written, step_there, step_length, more_keys, all_keys}
use Rattle.htl_case.proofs.playing.analysts_after.Goals as goal

pub loop-step-init : goal.loop-step-init
loop-step-init c = (
  c.in_ok-after.ensures.count,
  λ i a at. new_right c.args.case.now c.requires.case.trace a (c.in_ok-after.ensures.new i a at),
  λ i a at p n. new_keys c.args.case.now c.requires.case.trace a (c.in_ok-after.ensures.new i a at) p n,
)

pub try_step-requires-clause-there : goal.try_step-requires-clause-there
try_step-requires-clause-there c =
    rw (c.deref_mut.ensures.value, c.loop-step.invariant.0) (step_there c.args.analysts (length c.args.case.now.segments) c.args.steps.now
    c.loop-step.step-index (Take 0 0) c.requires.there c.loop-step-test.true)

pub try_step-requires-clause-right : goal.try_step-requires-clause-right
try_step-requires-clause-right c = rw c.deref_mut.ensures.value c.loop-step.invariant.1

pub loop-step-preserved : goal.loop-step-preserved
loop-step-preserved c =
    let step = get_or c.args.steps.now c.loop-step.step-index (Take 0 0) in
    let is : IsTriedStep c.args.case.now step c.loop-step.after.items c.try_step.new.analysts =
    rw c.deref_mut.ensures.value at c.in_ok-try_step.ensures.ok in
    let len = step_length c.args.case.now step c.loop-step.after.items c.try_step.new.analysts is in
    rw (written c.loop-step.after.len c.try_step.new.analysts (drop (length c.try_step.new.analysts) c.loop-step.after.items)
    (len ∙ sym c.loop-step.after.ok.0)) (
      len ∙ c.loop-step.invariant.0,
      tried_right c.args.case.now step c.loop-step.after.items c.try_step.new.analysts is c.loop-step.invariant.1,
      more_keys c.args.case.now c.args.steps.now c.loop-step.step-index (Take 0 0) c.loop-step-test.true c.loop-step.after.items
          c.try_step.new.analysts c.loop-step.invariant.1 c.loop-step.invariant.2 is,
    )

pub returns-clause-keys : goal.returns-clause-keys
returns-clause-keys c =
    all_keys c.args.case.now c.args.steps.now c.loop-step.step-index c.loop-step.after.items c.loop-step-test.false
    c.loop-step.invariant.2
