-- What is said of a question's run is how the run ended.
use Rattle.std.proofs.Common.{rules}
use Rattle.htl_program.proofs.Told.{run_told}
use Rattle.htl_program.proofs.performing.do_answer.Goals as goal

pub returns : goal.returns
returns g c =
    let begun = c.begin-audience.ensures in
    let over = c.end-manner.ensures in (
      search rules,
      record {
        ended = c.answer_question-ended.result;
        is = rw over.out (rw begun.out at c.answer_question-ended.ensures);
        status_is = search rules;
        after_run = g.P.Person.heard c.end-manner.new.self.person;
        hears_run = run_told _ _ _ c.args.line.now.command begun.told over.told;
        said = rw (over.quiet, over.words, begun.watching, begun.words) at c.say_answer.ensures;
      },
    )
