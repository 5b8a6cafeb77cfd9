-- What arguments ask for is what their entries ask for, where `clap` takes them.
use Rattle.std.proofs.Common.{map, string_bytes}
use Rattle.std.proofs.lemmas.Result.{IfErr-weaker, IfOk-weaker}
use Rattle.htl_command.proofs.Arguments.{broken, map-some, refused, taken, taken-notes}
use Rattle.htl_command.proofs.OfStates.{asked_fits}
use Rattle.htl_command.proofs.command.read_arguments.Goals as goal

pub returns-in-Ok-clause-command : goal.returns-in-Ok-clause-command
returns-in-Ok-clause-command c =
    let arguments = map string_bytes c.args.arguments.now in
    let some = map-some string_bytes c.args.arguments.now c.requires.some in
    let takes = c.in-Ok.ensures.ok in
    IfOk-weaker c.read_matches.result _ _ (λ asked is. rw (taken arguments some takes.0) (rw takes.1 at is)) c.read_matches.ensures.command

pub returns-in-Ok-clause-states : goal.returns-in-Ok-clause-states
returns-in-Ok-clause-states c =
    IfOk-weaker c.read_matches.result _ _ (λ line is. asked_fits (map string_bytes c.args.arguments.now) line.command is)
    (returns-in-Ok-clause-command c)

pub returns-in-Ok-clause-notes : goal.returns-in-Ok-clause-notes
returns-in-Ok-clause-notes c =
    let arguments = map string_bytes c.args.arguments.now in
    let some = map-some string_bytes c.args.arguments.now c.requires.some in
    let takes = c.in-Ok.ensures.ok in
    IfOk-weaker c.read_matches.result _ _ (λ asked is. rw (taken-notes arguments some) (rw takes.1 at is)) c.read_matches.ensures.notes

pub returns-in-Ok-clause-err : goal.returns-in-Ok-clause-err
returns-in-Ok-clause-err c =
    let arguments = map string_bytes c.args.arguments.now in
    let some = map-some string_bytes c.args.arguments.now c.requires.some in
    let takes = c.in-Ok.ensures.ok in
    IfErr-weaker c.read_matches.result _ _ (λ fault why. broken arguments fault some takes.0 (rw takes.1 at why)) c.read_matches.ensures.err

pub returns-in-Err-clause-err : goal.returns-in-Err-clause-err
returns-in-Err-clause-err c =
    refused (map string_bytes c.args.arguments.now) c.in-Err.fault (map-some string_bytes c.args.arguments.now c.requires.some) c.in-Err.ensures.err
