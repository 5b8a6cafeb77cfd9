-- The analyst that is asked is right about the case, and its keys are those that reached it; the fault is the only one.
use Rattle.std.proofs.Common.{◌≡◌, ℕ, ◌<◌, Bool, length, ap, Err, refl, inr, subst, arith}
use Rattle.std.proofs.Math.Path.{fun_ext}
use Rattle.std.proofs.lemmas.Option.{slice_get_read}
use Rattle.std.proofs.lemmas.Result.{err_from_is_err_and}
use Rattle.htl_analyst.specs.States.{State}
use Rattle.htl_analyst.specs.Keys.{keys}
use Rattle.htl_case.specs.Reached.{reached}
use Rattle.htl_case.specs.Answers.{IsAnswer}
use Rattle.htl_case.proofs.Determined.{stated}
use Rattle.htl_case.proofs.FirstFaults.{fault_of_steps, one_of_steps, fault_of_analyst}
use Rattle.htl_case.proofs.asking.answer_after.Goals as goal

pub returns-in_err-check_steps-clause-refused : goal.returns-in_err-check_steps-clause-refused
returns-in_err-check_steps-clause-refused c =
    let p = err_from_is_err_and c.from_residual.result c.from_residual.ensures.1 in
    let told = rw c.segments.ensures.value at c.in_err-check_steps.ensures.err in
    rw (p.1, p.2) (fault_of_steps c.args.analysts (length c.args.case.now.segments) c.args.steps.now c.args.analyst
    c.in_err-check_steps.field-0.0 c.in_err-check_steps.ensures.cause told)

pub returns-in_err-check_steps-clause-exact : goal.returns-in_err-check_steps-clause-exact
returns-in_err-check_steps-clause-exact c fault ne refused =
    let p = err_from_is_err_and c.from_residual.result c.from_residual.ensures.1 in
    let told = rw c.segments.ensures.value at c.in_err-check_steps.ensures.err in
    rw (p.1, p.2) (ap Err (one_of_steps c.args.analysts (length c.args.case.now.segments) c.args.steps.now c.args.analyst
    c.in_err-check_steps.field-0.0 fault c.in_err-check_steps.ensures.cause ne told refused))

pub returns-then-analyst-analysts-clause-refused : goal.returns-then-analyst-analysts-clause-refused
returns-then-analyst-analysts-clause-refused c =
    let fine = rw c.segments.ensures.value at c.in_ok-check_steps.ensures.ok in
    inr (fine, c.if-analyst-analysts.true, refl)

pub returns-then-analyst-analysts-clause-exact : goal.returns-then-analyst-analysts-clause-exact
returns-then-analyst-analysts-clause-exact c fault ne refused =
    let fine = rw c.segments.ensures.value at c.in_ok-check_steps.ensures.ok in
    ap Err (fault_of_analyst c.args.analysts (length c.args.case.now.segments) c.args.steps.now c.args.analyst fault ne fine refused).1

pub analysts_after-requires-clause-there : goal.analysts_after-requires-clause-there
analysts_after-requires-clause-there c = rw c.segments.ensures.value at c.in_ok-check_steps.ensures.ok

pub returns-in_err-after-clause-refused : goal.returns-in_err-after-clause-refused
returns-in_err-after-clause-refused c =
    let p = err_from_is_err_and c.from_residual-in_err-after.result c.from_residual-in_err-after.ensures.1 in
    let fine = rw c.segments.ensures.value at c.in_ok-check_steps.ensures.ok in
    let there : c.args.analyst < c.args.analysts = omega arith in
    rw (p.1, p.2, c.in_err-after.ensures.err) (fine, there)

pub returns-in_err-ask-clause-refused : goal.returns-in_err-ask-clause-refused
returns-in_err-ask-clause-refused c =
    let p = err_from_is_err_and c.from_residual-in_err-ask.result c.from_residual-in_err-ask.ensures.1 in
    let fine = rw c.segments.ensures.value at c.in_ok-check_steps.ensures.ok in
    let there : c.args.analyst < c.args.analysts = omega arith in
    rw (p.1, p.2) (fine, there)

pub returns-clause-answer : goal.returns-clause-answer
returns-clause-answer c =
    let T = c.args.case.now in
    let a : State = c.index.result.now in
    let there : c.args.analyst < length c.in_ok-after.after.items = omega (arith, c.in_ok-after.ensures.count) in
    let at = slice_get_read c.in_ok-after.after.items (length c.in_ok-after.after.items) c.args.analyst a refl there c.index.ensures in
    let same : keys a ≡ reached T c.args.steps.now c.args.analyst =
    fun_ext λ p. fun_ext λ n. c.in_ok-after.ensures.keys c.args.analyst a at p n in
    subst (λ (S : ℕ → ℕ → Bool). IsAnswer T S c.args.question.now c.in_ok-ask.field-0) same
    (c.in_ok-ask.ensures T (stated c.args.question.now T c.segments.ensures.is_case.trace) (c.in_ok-after.ensures.right c.args.analyst a at))

pub returns-clause-accepted : goal.returns-clause-accepted
returns-clause-accepted c =
    let fine = rw c.segments.ensures.value at c.in_ok-check_steps.ensures.ok in
    let there : c.args.analyst < c.args.analysts = omega arith in
    (fine, there)

pub returns-clause-exact : goal.returns-clause-exact
returns-clause-exact c fault ne refused =
    let fine = rw c.segments.ensures.value at c.in_ok-check_steps.ensures.ok in
    let past = (fault_of_analyst c.args.analysts (length c.args.case.now.segments) c.args.steps.now c.args.analyst fault ne fine refused).0 in
    let never : ⊥ = omega arith in
    absurd never
