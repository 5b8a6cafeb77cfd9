-- What arguments ask for in a dialogue is what their entries ask for, where `clap` takes them.
use Rattle.std.proofs.Common.{◌∙◌, map, string_bytes}
use Rattle.std.proofs.lemmas.Result.{IfErr-weaker, IfOk-weaker}
use Rattle.htl_command.proofs.Arguments.{asked_broken, asked_refused, asked_taken}
use Rattle.htl_command.proofs.line.parse_question.Goals as goal

pub returns-in-Ok-clause-ok : goal.returns-in-Ok-clause-ok
returns-in-Ok-clause-ok c =
    let arguments = map string_bytes c.args.arguments.now in
    let takes = c.in-Ok.ensures.ok in
    IfOk-weaker c.read_line.result _ _ (λ job is. asked_taken arguments takes.0 ∙ (rw takes.1 at is)) c.read_line.ensures.ok

pub returns-in-Ok-clause-err : goal.returns-in-Ok-clause-err
returns-in-Ok-clause-err c =
    let arguments = map string_bytes c.args.arguments.now in
    let takes = c.in-Ok.ensures.ok in
    IfErr-weaker c.read_line.result _ _ (λ fault why. asked_broken arguments fault takes.0 (rw takes.1 at why)) c.read_line.ensures.err

pub returns-in-Err-clause-err : goal.returns-in-Err-clause-err
returns-in-Err-clause-err c = asked_refused (map string_bytes c.args.arguments.now) c.in-Err.fault c.in-Err.ensures.err
