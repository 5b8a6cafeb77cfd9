-- The bytes are the segments that the folder took and those that are left, or it took those before a fault.
use Rattle.htl_inputs.proofs.EndLaws.{rest_at, refused_input}
use Rattle.htl_inputs.proofs.InputLaws.{refused_bytes}
use Rattle.htl_main.specs.Folders.{folds_of}
use Rattle.htl_main.proofs.FoldInputs.{kept_before, text_kept, text_ok}
use Rattle.htl_main.proofs.folding.taking.take_bytes.Goals as goal

pub returns-clause-ok : goal.returns-clause-ok
returns-clause-ok c = λ input has.
    let split = c.in-Ok.ensures.gathered in
    let rest = c.in-Ok.rest.now in
    let left = c.early_end.ensures split.0 (rest_at c.args.bytes.now rest split.0 split.1) c.in-Ok.ensures.rest in
    text_ok folds_of c.args.folder.now c.split.new.keeper c.args.form c.args.place input c.args.bytes.now rest split.0 c.check_end.result has
    split.1 split.2 (c.check_end.ensures.end split.0 rest left)

pub returns-clause-err : goal.returns-clause-err
returns-clause-err c = λ input has.
    let split = c.in-Ok.ensures.gathered in
    let rest = c.in-Ok.rest.now in
    let left = c.early_end.ensures split.0 (rest_at c.args.bytes.now rest split.0 split.1) c.in-Ok.ensures.rest in
    refused_input c.args.form c.args.place input c.args.bytes.now rest split.0 c.check_end.result has split.1
    (c.check_end.ensures.refused split.0 rest left)

pub returns-clause-kept : goal.returns-clause-kept
returns-clause-kept c = λ input left_over has.
    let split = c.in-Ok.ensures.gathered in
    let rest = c.in-Ok.rest.now in
    let left = c.early_end.ensures split.0 (rest_at c.args.bytes.now rest split.0 split.1) c.in-Ok.ensures.rest in
    text_kept folds_of c.args.folder.now c.split.new.keeper c.args.form c.args.place left_over input c.args.bytes.now rest split.0
    c.check_end.result has split.1 split.2 (c.check_end.ensures.refused split.0 rest left)

pub returns-in-Err-clause-err : goal.returns-in-Err-clause-err
returns-in-Err-clause-err c = λ input has.
    rw (c.from_segment.ensures) (refused_bytes c.args.form c.args.place input c.args.bytes.now _ _ has c.in-Err.ensures.refused)

pub returns-in-Err-clause-kept : goal.returns-in-Err-clause-kept
returns-in-Err-clause-kept c = λ input left has.
    rw (c.from_segment.ensures) (kept_before folds_of c.args.folder.now c.split.new.keeper c.args.form c.args.place left input c.args.bytes.now
    c.in-Err.offset c.in-Err.fault has c.in-Err.ensures.kept)
