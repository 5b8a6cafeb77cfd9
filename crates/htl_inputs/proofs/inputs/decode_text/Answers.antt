-- The segments are those of the bytes that the digits write, or the digits are refused.
use Rattle.std.proofs.lemmas.Result.{err_from_is_err_and}
use Rattle.htl_inputs.specs.Inputs.{HasBytes}
use Rattle.htl_inputs.proofs.inputs.decode_text.Goals as goal

pub returns-in_err-bytes-clause-err : goal.returns-in_err-bytes-clause-err
returns-in_err-bytes-clause-err c =
    let p = err_from_is_err_and c.from_residual.result c.from_residual.ensures.1 in
    rw (p.1, p.2) (c.in_err-bytes.ensures.err c.args.form c.requires)

pub returns-clause-ok : goal.returns-clause-ok
returns-clause-ok c =
    let has : HasBytes c.args.form.hex c.args.input.now c.in_ok-bytes.bytes.items = rw (c.requires) (c.in_ok-bytes.ensures.ok) in
    c.decode_bytes.ensures.ok c.args.input.now (rw (c.deref.ensures.value) has)

pub returns-clause-err : goal.returns-clause-err
returns-clause-err c =
    let has : HasBytes c.args.form.hex c.args.input.now c.in_ok-bytes.bytes.items = rw (c.requires) (c.in_ok-bytes.ensures.ok) in
    c.decode_bytes.ensures.err c.args.input.now (rw (c.deref.ensures.value) has)
