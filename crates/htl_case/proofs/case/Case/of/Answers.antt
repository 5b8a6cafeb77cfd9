-- A list of segments is answered with its case, or with the first rule that it breaks.
use Rattle.std.proofs.lemmas.Result.{err_from_is_err_and}
use Rattle.htl_case.specs.declared.fault.CaseFault.TheVariants.{SequenceTwice}
use Rattle.htl_case.proofs.Refusals.{two_refused, of_one_trace, twice_refused, rising_refused, is_trace, still_some}
use Rattle.htl_case.proofs.Refusals.{case_of_given}
use Rattle.htl_case.proofs.Outcomes.{exact_fault, exact_case}
use Rattle.htl_case.proofs.case.Case.of.Goals as goal

pub returns-in_err-trace_id-clause-exact : goal.returns-in_err-trace_id-clause-exact
returns-in_err-trace_id-clause-exact c outcome is =
    let p = err_from_is_err_and c.from_residual.result c.from_residual.ensures.1 in
    let refused = rw c.deref.ensures.value at c.in_err-trace_id.ensures.err in
    rw (p.1, p.2) (exact_fault c.args.segments.items c.in_err-trace_id.field-0.0 outcome refused is)

pub returns-in_err-segments-clause-err : goal.returns-in_err-segments-clause-err
returns-in_err-segments-clause-err c =
    let p = err_from_is_err_and c.from_residual-in_err-segments.result c.from_residual-in_err-segments.ensures.1 in
    let of = rw c.deref.ensures.value at c.in_ok-trace_id.ensures.ok in
    rw (p.1, p.2) (two_refused c.args.segments.items c.in_ok-trace_id.trace_id c.in_ok-trace_id.processors _ of
    c.in_err-segments.ensures.err)

pub returns-in_err-segments-clause-exact : goal.returns-in_err-segments-clause-exact
returns-in_err-segments-clause-exact c outcome is =
    let p = err_from_is_err_and c.from_residual-in_err-segments.result c.from_residual-in_err-segments.ensures.1 in
    let of = rw c.deref.ensures.value at c.in_ok-trace_id.ensures.ok in
    let refused = two_refused c.args.segments.items c.in_ok-trace_id.trace_id c.in_ok-trace_id.processors c.in_err-segments.field-0.0 of
    c.in_err-segments.ensures.err in
    rw (p.1, p.2) (exact_fault c.args.segments.items c.in_err-segments.field-0.0 outcome refused is)

pub returns-in_err-sequence-clause-err : goal.returns-in_err-sequence-clause-err
returns-in_err-sequence-clause-err c =
    let p = err_from_is_err_and c.from_residual-in_err-sequence.result c.from_residual-in_err-sequence.ensures.1 in
    let of = rw c.deref.ensures.value at c.in_ok-trace_id.ensures.ok in
    rw (p.1, p.2) (of_one_trace c.args.segments.items c.in_ok-segments.segments.items c.in_ok-trace_id.trace_id
    c.in_ok-trace_id.processors of c.in_ok-segments.ensures.ok)

pub returns-in-Some-clause-err : goal.returns-in-Some-clause-err
returns-in-Some-clause-err c =
    let of = rw c.deref.ensures.value at c.in_ok-trace_id.ensures.ok in
    let found = rw c.in-Some.is at c.in_ok-sequence.ensures.found in
    twice_refused c.args.segments.items c.in_ok-segments.segments.items c.in_ok-trace_id.trace_id c.in_ok-trace_id.processors of
    c.in_ok-segments.ensures.ok c.in-Some.sequence (rw c.deref-2.ensures.value at found)

pub returns-in-Some-clause-exact : goal.returns-in-Some-clause-exact
returns-in-Some-clause-exact c outcome is =
    let of = rw c.deref.ensures.value at c.in_ok-trace_id.ensures.ok in
    let found = rw c.in-Some.is at c.in_ok-sequence.ensures.found in
    let refused = twice_refused c.args.segments.items c.in_ok-segments.segments.items c.in_ok-trace_id.trace_id
    c.in_ok-trace_id.processors of c.in_ok-segments.ensures.ok c.in-Some.sequence (rw c.deref-2.ensures.value at found) in
    exact_fault c.args.segments.items (SequenceTwice c.in-Some.sequence) outcome refused is

pub of_trace-requires-clause-some : goal.of_trace-requires-clause-some
of_trace-requires-clause-some c =
    let of = rw c.deref.ensures.value at c.in_ok-trace_id.ensures.ok in
    still_some c.args.segments.items c.in_ok-segments.segments.items c.in_ok-trace_id.trace_id c.in_ok-trace_id.processors of
    c.in_ok-segments.ensures.ok

pub of_trace-requires-clause-trace : goal.of_trace-requires-clause-trace
of_trace-requires-clause-trace c =
    let of = rw c.deref.ensures.value at c.in_ok-trace_id.ensures.ok in
    let found = rw c.in_default.is at c.in_ok-sequence.ensures.found in
    is_trace c.args.segments.items c.in_ok-segments.segments.items c.in_ok-trace_id.trace_id c.in_ok-trace_id.processors of
    c.in_ok-segments.ensures.ok (rw c.deref-2.ensures.value at c.in_ok-sequence.ensures.fit) (rw c.deref-2.ensures.value at found.1)

pub returns-in_err-case-clause-err : goal.returns-in_err-case-clause-err
returns-in_err-case-clause-err c =
    let p = err_from_is_err_and c.from_residual-in_err-case.result c.from_residual-in_err-case.ensures.1 in
    let of = rw c.deref.ensures.value at c.in_ok-trace_id.ensures.ok in
    let found = rw c.in_default.is at c.in_ok-sequence.ensures.found in
    rw (p.1, p.2) (rising_refused c.args.segments.items c.in_ok-segments.segments.items c.in_ok-trace_id.trace_id
    c.in_ok-trace_id.processors of c.in_ok-segments.ensures.ok c.in_err-case.field-0.0 (rw c.deref-2.ensures.value at found.0)
    c.in_err-case.ensures.err)

pub returns-in_err-case-clause-exact : goal.returns-in_err-case-clause-exact
returns-in_err-case-clause-exact c outcome is =
    let p = err_from_is_err_and c.from_residual-in_err-case.result c.from_residual-in_err-case.ensures.1 in
    let of = rw c.deref.ensures.value at c.in_ok-trace_id.ensures.ok in
    let found = rw c.in_default.is at c.in_ok-sequence.ensures.found in
    let refused = rising_refused c.args.segments.items c.in_ok-segments.segments.items c.in_ok-trace_id.trace_id
    c.in_ok-trace_id.processors of c.in_ok-segments.ensures.ok c.in_err-case.field-0.0 (rw c.deref-2.ensures.value at found.0)
    c.in_err-case.ensures.err in
    rw (p.1, p.2) (exact_fault c.args.segments.items c.in_err-case.field-0.0 outcome refused is)

pub returns-clause-ok : goal.returns-clause-ok
returns-clause-ok c =
    let of = rw c.deref.ensures.value at c.in_ok-trace_id.ensures.ok in
    case_of_given c.args.segments.items c.in_ok-segments.segments.items c.in_ok-trace_id.trace_id c.in_ok-trace_id.processors of
    c.in_ok-segments.ensures.ok c.in_ok-case.case c.in_ok-case.ensures.value c.in_ok-case.ensures.is_case

pub returns-clause-exact : goal.returns-clause-exact
returns-clause-exact c outcome is =
    let of = rw c.deref.ensures.value at c.in_ok-trace_id.ensures.ok in
    exact_case c.args.segments.items c.in_ok-case.case outcome
    (case_of_given c.args.segments.items c.in_ok-segments.segments.items c.in_ok-trace_id.trace_id c.in_ok-trace_id.processors of
    c.in_ok-segments.ensures.ok c.in_ok-case.case c.in_ok-case.ensures.value c.in_ok-case.ensures.is_case)
    is
