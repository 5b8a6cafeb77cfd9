-- Each analyst has the history of the steps that were done, and so it is right and has the keys that reached it.
use Rattle.std.proofs.Common.{sym, ◌∙◌, length, get_or, take, drop, ap, Err}
use Rattle.std.proofs.lemmas.Result.{err_from_is_err_and}
use Rattle.htl_case.specs.declared.step.Step.TheVariants.{Take}
use Rattle.htl_case.specs.Histories.{history}
use Rattle.htl_case.specs.Changes.{IsStep}
use Rattle.htl_case.proofs.FirstFaults.{one_fault, no_fault}
use Rattle.htl_case.proofs.Stepped.{tried_step}
use Rattle.htl_case.proofs.Histories.{leaves_right, leaves_keys, history_reached}
use Rattle.htl_case.proofs.Played.{written, step_there, step_length, more_histories, all_histories}
use Rattle.htl_case.proofs.playing.play.Goals as goal

pub returns-in_err-check_steps-clause-exact : goal.returns-in_err-check_steps-clause-exact
returns-in_err-check_steps-clause-exact c fault ne refused =
    let p = err_from_is_err_and c.from_residual.result c.from_residual.ensures.1 in
    let told = rw c.segments.ensures.value at c.in_err-check_steps.ensures.err in
    rw (p.1, p.2) (ap Err (one_fault c.args.analysts (length c.args.case.now.segments) c.args.steps.now
    c.in_err-check_steps.field-0.0 fault c.in_err-check_steps.ensures.cause ne told refused))

pub returns-in_err-played-clause-refused : goal.returns-in_err-played-clause-refused
returns-in_err-played-clause-refused c =
    let p = err_from_is_err_and c.from_residual-in_err-played.result c.from_residual-in_err-played.ensures.1 in
    let fine = rw c.segments.ensures.value at c.in_ok-check_steps.ensures.ok in
    rw (p.1, p.2, c.in_err-played.ensures.err) fine

pub do_step-requires-clause-there : goal.do_step-requires-clause-there
do_step-requires-clause-there c =
    let fine = rw c.segments.ensures.value at c.in_ok-check_steps.ensures.ok in
    rw (c.deref_mut.ensures.value, c.loop-step.invariant.0) (step_there c.args.analysts (length c.args.case.now.segments) c.args.steps.now
    c.loop-step.step-index (Take 0 0) fine c.loop-step-test.true)

pub do_step-requires-clause-right : goal.do_step-requires-clause-right
do_step-requires-clause-right c =
    rw c.deref_mut.ensures.value (λ i a at. leaves_right c.args.case.now c.segments.ensures.is_case.trace
    (history (take c.loop-step.step-index c.args.steps.now) i) a (c.loop-step.invariant.1 i a at))

pub loop-step-preserved : goal.loop-step-preserved
loop-step-preserved c =
    let step = get_or c.args.steps.now c.loop-step.step-index (Take 0 0) in
    let is : IsStep c.args.case.now step c.loop-step.played.items c.do_step.new.analysts =
    rw c.deref_mut.ensures.value at c.in_ok-do_step.ensures.ok in
    let len = step_length c.args.case.now step c.loop-step.played.items c.do_step.new.analysts
    (tried_step c.args.case.now step c.loop-step.played.items c.do_step.new.analysts is) in
    rw (written c.loop-step.played.len c.do_step.new.analysts (drop (length c.do_step.new.analysts) c.loop-step.played.items)
    (len ∙ sym c.loop-step.played.ok.0)) (
      len ∙ c.loop-step.invariant.0,
      more_histories c.args.case.now c.args.steps.now c.loop-step.step-index (Take 0 0) c.loop-step-test.true c.loop-step.played.items
          c.do_step.new.analysts c.loop-step.invariant.1 is,
    )

pub returns-in_err-do_step-clause-refused : goal.returns-in_err-do_step-clause-refused
returns-in_err-do_step-clause-refused c =
    let p = err_from_is_err_and c.from_residual-in_err-do_step.result c.from_residual-in_err-do_step.ensures.1 in
    let fine = rw c.segments.ensures.value at c.in_ok-check_steps.ensures.ok in
    rw (p.1, p.2, c.in_err-do_step.ensures.err) fine

pub returns-in_err-do_step-clause-exact : goal.returns-in_err-do_step-clause-exact
returns-in_err-do_step-clause-exact c fault ne refused =
    let fine = rw c.segments.ensures.value at c.in_ok-check_steps.ensures.ok in
    absurd (no_fault c.args.analysts (length c.args.case.now.segments) c.args.steps.now fine fault ne refused)

pub returns-clause-right : goal.returns-clause-right
returns-clause-right c i a at =
    leaves_right c.args.case.now c.segments.ensures.is_case.trace (history c.args.steps.now i) a
    (all_histories c.args.case.now c.args.steps.now c.loop-step.step-index c.loop-step.played.items c.loop-step-test.false
    c.loop-step.invariant.1 i a at)

pub returns-clause-keys : goal.returns-clause-keys
returns-clause-keys c i a at p n =
    leaves_keys c.args.case.now c.segments.ensures.is_case.trace (history c.args.steps.now i) a
    (all_histories c.args.case.now c.args.steps.now c.loop-step.step-index c.loop-step.played.items c.loop-step-test.false
    c.loop-step.invariant.1 i a at) p n
    ∙ history_reached c.args.case.now c.args.steps.now i p n

pub returns-clause-accepted : goal.returns-clause-accepted
returns-clause-accepted c = rw c.segments.ensures.value at c.in_ok-check_steps.ensures.ok

pub returns-clause-exact : goal.returns-clause-exact
returns-clause-exact c fault ne refused =
    let fine = rw c.segments.ensures.value at c.in_ok-check_steps.ensures.ok in
    absurd (no_fault c.args.analysts (length c.args.case.now.segments) c.args.steps.now fine fault ne refused)
