-- What is said of an encoding is how the encoding ended.
use Rattle.std.proofs.Common.{◌≡◌, ◌&&◌, false, not, rules}
use Rattle.htl_program.proofs.Told.{run_told}
use Rattle.htl_program.proofs.performing.do_encode.Goals.{else-not-hex-via-then-not-hex+else-sees_output, else-not-hex-via-else-not-hex}
use Rattle.htl_program.proofs.performing.do_encode.Goals as goal

pub returns : goal.returns
returns g c =
    let begun = c.begin-audience.ensures in
    let over = c.end-manner.ensures in
    let unseen : (not c.args.hex && g.P.Person.sees_output c.args.console.now.person) ≡ false = elim c.else-not-hex.branch [
      | else-not-hex-via-then-not-hex+else-sees_output w ↦ search rules
      | else-not-hex-via-else-not-hex w ↦ search rules
    ] in
    rw unseen (
      search rules,
      record {
        ended = c.encode-ended.result;
        is = rw over.out (rw begun.out at c.encode-ended.ensures);
        status_is = c.status_of_conversion.ensures;
        after_run = g.P.Person.heard c.end-manner.new.self.person;
        hears_run = run_told _ _ _ c.args.line.now.command begun.told over.told;
        said = rw (over.quiet, over.words, begun.watching, begun.words) at c.say_encoding.ensures;
      },
    )
