-- A dialogue's end is said, and what its speaker heard is what the dialogue told.
use Rattle.std.proofs.Common.{◌∙◌, ap, rules}
use Rattle.std.proofs.lemmas.Result.{IfErr-weaker}
use Rattle.htl_ask.specs.Asking.{before_dialogue}
use Rattle.htl_program.proofs.Told.{run_told}
use Rattle.htl_program.proofs.performing.do_converse.Goals as goal

pub returns : goal.returns
returns g c =
    let begun = c.begin-audience.ensures in
    let over = c.end-manner.ensures in
    let lines = c.questions-questions.ensures in
    let wish = c.takes_notes.ensures in
    record {
      ended = c.converse-ended.result;
      is = record {
        listening = c.converse-ended.new.speaker;
        questions = g.W.Input.Source.state c.converse-ended.new.questions;
        handed = search rules;
        between = g.W.World.state c.questions-questions.new.self;
        first = lines.asked;
        is = rw over.out (rw (lines.source, begun.out, wish.wanted, wish.taken, begun.words) at c.converse-ended.ensures.conversed);
        untouched = IfErr-weaker (before_dialogue c.converse-ended.result) _ _
            (λ refused same. (
              ap g.W.Input.Source.state same.0 ∙ lines.source,
              ap g.O.Sink.state (over.out ∙ (same.1 ∙ begun.out)),
              same.2 ∙ (rw begun.words at wish.taken),
            ))
            c.converse-ended.ensures.untouched;
        after = search rules;
      };
      status_is = search rules;
      after_run = g.P.Person.heard c.end-manner.new.self.person;
      hears_run = run_told _ _ _ c.args.line.now.command begun.told over.told;
      said = rw (over.quiet, over.words, begun.watching, begun.words) at c.say_dialogue.ensures;
    }
