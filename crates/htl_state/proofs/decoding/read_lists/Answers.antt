-- A list that is refused refuses the part, and five lists that are read are its rows.
use Rattle.std.proofs.lemmas.Result.{err_from_is_err_and}
use Rattle.htl_state.proofs.Steps.{latest_refused, marks_refused, exits_refused, held_refused, lists_read}
use Rattle.htl_state.proofs.decoding.read_lists.Goals as goal

pub returns-in_err-latest : goal.returns-in_err-latest
returns-in_err-latest c =
    let e1 = rw c.behind.ensures at c.in_ok-counts.ensures in
    let p = err_from_is_err_and c.from_residual-in_err-latest.result c.from_residual-in_err-latest.ensures.1 in
    rw (p.1, p.2) (latest_refused c.args.setting c.args.bytes.now _ _ _ e1 c.in_err-latest.ensures)

pub returns-in_err-marks : goal.returns-in_err-marks
returns-in_err-marks c =
    let e1 = rw c.behind.ensures at c.in_ok-counts.ensures in
    let p = err_from_is_err_and c.from_residual-in_err-marks.result c.from_residual-in_err-marks.ensures.1 in
    rw (p.1, p.2) (marks_refused c.args.setting c.args.bytes.now _ _ _ _ _ e1 c.in_ok-latest.ensures c.in_err-marks.ensures)

pub returns-in_err-exits : goal.returns-in_err-exits
returns-in_err-exits c =
    let e1 = rw c.behind.ensures at c.in_ok-counts.ensures in
    let p = err_from_is_err_and c.from_residual-in_err-exits.result c.from_residual-in_err-exits.ensures.1 in
    rw (p.1, p.2) (exits_refused c.args.setting c.args.bytes.now _ _ _ _ _ _ _ e1 c.in_ok-latest.ensures c.in_ok-marks.ensures c.in_err-exits.ensures)

pub returns-in_err-held : goal.returns-in_err-held
returns-in_err-held c =
    let e1 = rw c.behind.ensures at c.in_ok-counts.ensures in
    let p = err_from_is_err_and c.from_residual-in_err-held.result c.from_residual-in_err-held.ensures.1 in
    rw (p.1, p.2) (held_refused c.args.setting c.args.bytes.now _ _ _ _ _ _ _ _ _ e1
    c.in_ok-latest.ensures c.in_ok-marks.ensures c.in_ok-exits.ensures c.in_err-held.ensures)

pub returns : goal.returns
returns c =
    let e1 = rw c.behind.ensures at c.in_ok-counts.ensures in
    rw (c.u32_at.ensures, c.u64_at.ensures, c.u64_at-2.ensures) (lists_read c.args.setting c.args.bytes.now _ _ _ _ _ _ _ _ _ _ e1
    c.in_ok-latest.ensures c.in_ok-marks.ensures c.in_ok-exits.ensures c.in_ok-held.ensures)
