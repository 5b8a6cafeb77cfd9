-- A turn reads the next part, or the reading of all is refused there.
use Rattle.std.proofs.lemmas.Result.{err_from_is_err_and}
use Rattle.htl_state.proofs.Turns.{part_read, parts_done}
use Rattle.htl_state.proofs.Steps.{part_refusal}
use Rattle.htl_state.proofs.decoding.read_parts.Goals as goal

pub returns-in_err-part : goal.returns-in_err-part
returns-in_err-part c =
    let p = err_from_is_err_and c.from_residual.result c.from_residual.ensures.1 in
    rw (p.1, p.2) (part_refusal c.args.setting c.args.setting.processors c.loop-processor.processor c.loop-processor.parts.items
    c.loop-processor.rest.now _ _ c.loop-processor-test.true c.in_err-part.ensures c.loop-processor.invariant)

pub loop-processor-preserved : goal.loop-processor-preserved
loop-processor-preserved c =
    rw c.in_ok-push.ensures.items (part_read c.args.setting c.args.setting.processors c.loop-processor.processor c.loop-processor.parts.items
    c.loop-processor.rest.now c.in_ok-part.after.now c.in_ok-part.part _ c.loop-processor-test.true c.in_ok-part.ensures
    c.loop-processor.invariant)

pub returns : goal.returns
returns c =
    parts_done c.args.setting c.args.setting.processors c.loop-processor.processor c.loop-processor.parts.items c.loop-processor.rest.now _
    c.loop-processor-test.false c.loop-processor.invariant
