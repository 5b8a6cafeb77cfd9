-- Each byte is shown by one character of one byte.
use Rattle.htl_program.proofs.ShownTags.{four_shown}
use Rattle.htl_program.proofs.explained.subject.ShownTagDisplay.fmt.Goals as goal

pub returns-clause-writes : goal.returns-clause-writes
returns-clause-writes g c =
    let shown = four_shown c.args.self.now.tag c.shown_byte-first.result c.shown_byte-second.result c.shown_byte-third.result c.shown_byte-fourth.result
    c.type_inv.self.0.1.0.1 c.shown_byte-first.ensures.value c.shown_byte-second.ensures.value c.shown_byte-third.ensures.value
    c.shown_byte-fourth.ensures.value
    c.shown_byte-first.ensures.ascii c.shown_byte-second.ensures.ascii c.shown_byte-third.ensures.ascii c.shown_byte-fourth.ensures.ascii in
    rw (← shown) c.write.ensures.writes
