-- The first fault of the symbols ends whichever job loads them, and so does memory that was refused for them or for the gaps.
use Rattle.std.proofs.Common.{sym, ◌∙◌}
use Rattle.std.proofs.lemmas.Result.{err_from_is_err_and}
use Rattle.std.specs.Option.{option_copied}
use Rattle.htl_inputs.specs.CutInputs.{decoding}
use Rattle.htl_main.proofs.Missing.{memory_cause, missing_cause, symbols_cause}
use Rattle.htl_main.proofs.loading.with_symbols.Goals as goal

pub returns-in_err-missed-clause-err : goal.returns-in_err-missed-clause-err
returns-in_err-missed-clause-err c =
    let p = err_from_is_err_and c.from_residual.result c.from_residual.ensures.1 in
    rw (p.1, p.2) (λ segments job is same as_of. memory_cause (decoding segments c.args.cuts.now) (option_copied c.args.symbols) job c.args.case is)

pub returns-in_err-check_gaps-clause-err : goal.returns-in_err-check_gaps-clause-err
returns-in_err-check_gaps-clause-err c =
    let p = err_from_is_err_and c.from_residual-in_err-check_gaps.result c.from_residual-in_err-check_gaps.ensures.1 in
    let missing = c.in_err-check_gaps.ensures.err in
    let gap = missing.1 c.args.case c.in_ok-missed.ensures in
    rw (p.1, p.2) (λ segments job is same as_of. missing_cause (decoding segments c.args.cuts.now) (option_copied c.args.symbols) job c.args.case
    c.in_err-check_gaps.field-0.0 is (same ∙ missing.0) (rw as_of gap.0) gap.1)

pub returns-in_err-symbols-clause-err : goal.returns-in_err-symbols-clause-err
returns-in_err-symbols-clause-err c =
    let p = err_from_is_err_and c.from_residual-in_err-symbols.result c.from_residual-in_err-symbols.ensures.1 in
    rw (p.1, p.2) (λ segments job is same as_of. symbols_cause (decoding segments c.args.cuts.now) (option_copied c.args.symbols) job c.args.case
    c.in_err-symbols.field-0.0 is
    (λ whole. rw as_of (c.in_ok-check_gaps.ensures.ok (sym same ∙ whole) c.args.case c.in_ok-missed.ensures))
    c.in_err-symbols.ensures.err)
