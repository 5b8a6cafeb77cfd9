-- The arguments are those of the program that `clap` is given.
use Rattle.std.proofs.Common.{map, string_bytes}
use Rattle.clap.specs.Words.{app_of}
use Rattle.htl_command.proofs.Described.{matches-entries, refused-arguments, taken-refusals}
use Rattle.htl_command.proofs.matching.matches.Goals as goal

pub returns-in-Ok-clause-ok : goal.returns-in-Ok-clause-ok
returns-in-Ok-clause-ok c =
    let arguments = map string_bytes c.args.arguments.now in
    let app = app_of c.in_ok-program.field-0 in
    let same = c.in_ok-program.ensures.app in (
      taken-refusals app arguments same c.in-Ok.ensures.kinds,
      matches-entries app arguments c.in-Ok.matches same c.in-Ok.ensures.matches,
    )

pub returns-in-Err-clause-err : goal.returns-in-Err-clause-err
returns-in-Err-clause-err c =
    let arguments = map string_bytes c.args.arguments.now in
    let app = app_of c.in_ok-program.field-0 in
    let same = c.in_ok-program.ensures.app in
    refused-arguments app arguments c.in-Err.error c.from_clap.result same c.in-Err.ensures.kinds c.from_clap.ensures
