-- The inputs are opened once more, and a run over them is one over their names; or there is none.
use Rattle.std.proofs.Common.{◌≡◌, drop, length, rules}
use Rattle.std.proofs.lemmas.Result.{err_from_is_err_and}
use Rattle.htl_lemmas.proofs.Lists.{take_front}
use Rattle.htl_program.proofs.NamesRun.{run_of_names}
use Rattle.htl_program.proofs.RunAgain.{none_again, once_again}
use Rattle.htl_program.proofs.answering.run_again.Goals as goal

pub returns-in_err-open_inputs : goal.returns-in_err-open_inputs
returns-in_err-open_inputs g c =
    let p = err_from_is_err_and c.from_residual.result c.from_residual.ensures.1 in
    none_again 0 _ _ c.args.run.now _ _ _ c.from_residual.result p.0 c.in_err-open_inputs.field-0.0 p.1 p.2.0 p.2.1
    (rw c.deref.ensures.value at c.in_err-open_inputs.ensures)

pub returns : goal.returns
returns g c =
    let inputs = c.open_inputs.new.inputs in
    let opened = rw c.deref.ensures.value at c.in_ok-open_inputs.ensures in
    let kept : length c.run_from.new.inputs ≡ inputs.len = search rules in
    let back = take_front c.run_from.new.inputs (drop (length c.run_from.new.inputs) inputs.items) inputs.len kept in
    rw back (once_again 0 _ _ c.args.run.now _ _ _ _ _ _ opened
    (run_of_names (g.W.World.state c.args.world.now).known c.args.run.now _ g.W.Input.Source.state inputs.items c.run_from.new.inputs _ _ _
    opened.sources (rw c.deref_mut.ensures.value at c.run_from.ensures)))
