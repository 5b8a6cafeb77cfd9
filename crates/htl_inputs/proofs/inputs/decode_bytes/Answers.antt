-- The bytes are the segments that were split off and those that are left.
use Rattle.std.proofs.Common.{[]}
use Rattle.htl_inputs.proofs.EndLaws.{rest_at, accepted_input, refused_input}
use Rattle.htl_inputs.proofs.InputLaws.{refused_bytes}
use Rattle.htl_inputs.proofs.inputs.decode_bytes.Goals as goal

pub returns-clause-ok : goal.returns-clause-ok
returns-clause-ok c = λ input has.
    let split = c.in-Ok.ensures.gathered in
    let rest = c.in-Ok.rest.now in
    let left = c.early_end-early_end.ensures split.0 (rest_at c.args.bytes.now rest split.0 split.1) c.in-Ok.ensures.rest in
    accepted_input c.args.form input c.args.bytes.now rest split.0 c.split.new.keeper.list c.accept.result has split.1
    (split.2 c.new-segments.result [] c.new-segments.ensures) c.accept.ensures.segments (c.accept.ensures.end split.0 rest left)

pub returns-clause-err : goal.returns-clause-err
returns-clause-err c = λ input has.
    let split = c.in-Ok.ensures.gathered in
    let rest = c.in-Ok.rest.now in
    let left = c.early_end-early_end.ensures split.0 (rest_at c.args.bytes.now rest split.0 split.1) c.in-Ok.ensures.rest in
    refused_input c.args.form c.args.place input c.args.bytes.now rest split.0 c.accept.result has split.1
    (c.accept.ensures.refused split.0 rest left)

pub returns-in-Err-clause-err : goal.returns-in-Err-clause-err
returns-in-Err-clause-err c = λ input has.
    rw (c.from_segment.ensures) (refused_bytes c.args.form c.args.place input c.args.bytes.now _ _ has c.in-Err.ensures.refused)
