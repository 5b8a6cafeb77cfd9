-- A folding of opened inputs is one of their names, and there is none where a name could not be opened.
use Rattle.std.proofs.Common.{◌≡◌, ◌∙◌, Err, ap, drop, length, rules}
use Rattle.std.proofs.lemmas.Result.{err_from_is_err_and}
use Rattle.htl_lemmas.proofs.Lists.{take_front}
use Rattle.htl_main.specs.StateRuns.{IsFoldedFrom}
use Rattle.htl_program.specs.Messages.{alone}
use Rattle.htl_program.proofs.Converted.{all_converted, is_alone, none_converted}
use Rattle.htl_program.proofs.converting.fold.Goals as goal

pub returns-in_err-open_inputs : goal.returns-in_err-open_inputs
returns-in_err-open_inputs g c =
    let fault = c.in_err-open_inputs.field-0.0 in
    let p = err_from_is_err_and c.from_residual.result c.from_residual.ensures.1 in
    let is : c.from_residual.result ≡ Err (alone fault) = p.1 ∙ ap Err (is_alone p.0 fault p.2.0 p.2.1) in
    none_converted alone (IsFoldedFrom c.args.setting) _ _ c.args.files.now _ _ _ fault c.requires is c.in_err-open_inputs.ensures

pub returns : goal.returns
returns g c =
    let inputs = c.open_inputs.new.inputs in
    let kept : length c.fold_from.new.inputs ≡ inputs.len = search rules in
    let back = take_front c.fold_from.new.inputs (drop (length c.fold_from.new.inputs) inputs.items) inputs.len kept in
    let is = rw c.deref_mut.ensures.value at c.fold_from.ensures in
    rw back (all_converted alone (IsFoldedFrom c.args.setting) _ _ c.args.files.now _ _ _ _ _ c.in_ok-open_inputs.ensures is)
