-- The inputs are opened once more, and a run over them, of picks or of whole segments, is one over their names; or there is none.
use Rattle.std.proofs.Common.{◌≡◌, ◌∙◌, ap, drop, length, map, rules, string_bytes}
use Rattle.std.specs.Prelude.{Err}
use Rattle.std.proofs.lemmas.Result.{err_from_is_err_and}
use Rattle.htl_lemmas.proofs.Lists.{take_front}
use Rattle.htl_main.specs.Origins.{by_fault}
use Rattle.htl_world.proofs.Asked.{one_round}
use Rattle.htl_program.proofs.NamesRun.{run_of_names}
use Rattle.htl_program.proofs.Picked.{picked_answer, picked_refusal}
use Rattle.htl_program.proofs.RunAgain.{none_again, once_again}
use Rattle.htl_program.proofs.answering.pick_again.Goals as goal

pub returns-in_err-open_inputs : goal.returns-in_err-open_inputs
returns-in_err-open_inputs g c =
    let p = err_from_is_err_and c.from_residual.result c.from_residual.ensures.1 in
    none_again 1 _ _ c.args.run.now _ _ _ c.from_residual.result p.0 c.in_err-open_inputs.field-0.0 p.1 p.2.0 p.2.1
    (rw c.deref.ensures.value at c.in_err-open_inputs.ensures)

pub returns-in-Ok : goal.returns-in-Ok
returns-in-Ok g c =
    let inputs = c.open_inputs.new.inputs in
    let opened = rw c.deref.ensures.value at c.in_ok-open_inputs.ensures in
    let kept : length c.pick_from.new.inputs ≡ inputs.len = search rules in
    let back = take_front c.pick_from.new.inputs (drop (length c.pick_from.new.inputs) inputs.items) inputs.len kept in
    rw back (once_again 1 _ _ c.args.run.now _ _ _ _ _ _ opened
    (run_of_names (g.W.World.state c.args.world.now).known c.args.run.now _ g.W.Input.Source.state inputs.items c.pick_from.new.inputs _ _ _
    opened.sources (picked_answer c.args.run.now.job _ _ _ _ _ _ c.in-Ok.completed c.requires.bytes
    (rw c.deref_mut.ensures.value at c.in-Ok.ensures))))

pub returns-in-Err-Refused : goal.returns-in-Err-Refused
returns-in-Err-Refused g c =
    let inputs = c.open_inputs.new.inputs in
    let opened = rw c.deref.ensures.value at c.in_ok-open_inputs.ensures in
    let kept : length c.pick_from.new.inputs ≡ inputs.len = search rules in
    let back = take_front c.pick_from.new.inputs (drop (length c.pick_from.new.inputs) inputs.items) inputs.len kept in
    rw back (once_again 1 _ _ c.args.run.now _ _ _ _ _ _ opened
    (run_of_names (g.W.World.state c.args.world.now).known c.args.run.now _ g.W.Input.Source.state inputs.items c.pick_from.new.inputs _ _ _
    opened.sources (picked_refusal c.args.run.now.job _ _ _ _ _ _ c.in-Err-Refused.fault c.from.result c.requires.bytes c.from.ensures.0
    c.from.ensures.1 (rw (c.in-Err-Refused.field-0-is, c.deref_mut.ensures.value) at c.in-Err-Refused.ensures))))

pub returns-in-Err-Lacking : goal.returns-in-Err-Lacking
returns-in-Err-Lacking g c =
    let opened = rw c.deref.ensures.value at c.in_ok-open_inputs.ensures in
    let unwritten = c.pick_from.ensures.unwritten c.in-Err-Lacking.field-0-0 (c.in-Err-Lacking.is ∙ ap Err c.in-Err-Lacking.field-0-is) in
    record {
      is = rw (opened.asked.known, unwritten) at c.run_again.ensures.is;
      asked = one_round (map string_bytes c.args.run.now.files.items) (by_fault c.run_again.result) 1 _ _ _ (tt {0}) opened.asked
          c.run_again.ensures.asked;
    }
