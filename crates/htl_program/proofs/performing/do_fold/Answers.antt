-- What is said of a folding is how the folding ended.
use Rattle.std.proofs.Common.{◌≡◌, false, rules}
use Rattle.htl_program.proofs.Told.{run_told}
use Rattle.htl_program.proofs.performing.do_fold.Goals as goal

pub returns : goal.returns
returns g c =
    let begun = c.begin-audience.ensures in
    let over = c.end-manner.ensures in
    let unseen : g.P.Person.sees_output c.args.console.now.person ≡ false = search rules in
    rw unseen (
      search rules,
      record {
        ended = c.fold-ended.result;
        is = rw over.out (rw begun.out at c.fold-ended.ensures);
        status_is = c.status_of_fold.ensures;
        after_run = g.P.Person.heard c.end-manner.new.self.person;
        hears_run = run_told _ _ _ c.args.line.now.command begun.told over.told;
        said = rw (over.quiet, over.words, begun.watching, begun.words) at c.say_folding.ensures;
      },
    )
