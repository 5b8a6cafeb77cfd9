-- What ends the loading after the case was made is about no two segments, and the cut ends are handed on.
use Rattle.std.proofs.Common.{refl}
use Rattle.std.proofs.lemmas.Result.{err_from_is_err_and}
use Rattle.std.specs.Option.{option_copied}
use Rattle.htl_inputs.specs.CutInputs.{decoding}
use Rattle.htl_main.proofs.AfterDecoding.{some_job}
use Rattle.htl_main.proofs.CaseRefused.{none_after}
use Rattle.htl_main.proofs.loading.load_decoded.Goals as goal

pub returns-in_err-case-clause-err : goal.returns-in_err-case-clause-err
returns-in_err-case-clause-err c =
    let p = err_from_is_err_and c.from_residual.result c.from_residual.ensures.1 in
    rw (p.1, p.2) (λ job whole as_of. c.in_err-case.ensures.err (option_copied c.args.symbols) job)

pub returns-in_err-loaded-clause-err : goal.returns-in_err-loaded-clause-err
returns-in_err-loaded-clause-err c =
    let p = err_from_is_err_and c.from_residual-in_err-loaded.result c.from_residual-in_err-loaded.ensures.1 in
    rw (p.1, p.2.0) (λ job whole as_of. rw (← c.in_ok-case.ensures.cuts, ← c.deref.ensures.value)
    (c.in_err-loaded.ensures.err c.args.decoded.segments.items job c.in_ok-case.ensures.ok whole as_of))

pub returns-in_err-loaded-clause-between : goal.returns-in_err-loaded-clause-between
returns-in_err-loaded-clause-between c =
    let p = err_from_is_err_and c.from_residual-in_err-loaded.result c.from_residual-in_err-loaded.ensures.1 in
    let segments = c.args.decoded.segments.items in
    let job = record some_job { setting = record (some_job.setting) { complete = c.args.complete }; until = c.args.until } in
    rw (p.1, p.2.0, p.2.1) (λ form inputs decoded are. none_after form inputs (decoding segments c.deref.result.now) c.in_ok-case.case
    (option_copied c.args.symbols) job c.in_err-loaded.field-0.0 c.in_ok-case.ensures.ok
    (c.in_err-loaded.ensures.err segments job c.in_ok-case.ensures.ok refl refl))

pub returns-clause-ok : goal.returns-clause-ok
returns-clause-ok c =
    rw (← c.in_ok-case.ensures.cuts, ← c.deref.ensures.value) (c.in_ok-loaded.ensures.ok c.args.decoded.segments.items c.in_ok-case.ensures.ok)

pub returns-clause-cut : goal.returns-clause-cut
returns-clause-cut c = λ hex inputs are. c.in_ok-loaded.ensures.cut hex inputs (rw (c.deref.ensures.value, c.in_ok-case.ensures.cuts) are)
