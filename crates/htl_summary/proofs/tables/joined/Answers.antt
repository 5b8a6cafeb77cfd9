-- The tables of both sides, joined, have the later event and the greater sequences of both.
use Rattle.htl_answers.proofs.JoinedTables.{tables_joined}
use Rattle.htl_summary.proofs.tables.joined.Goals as goal

pub returns : goal.returns
returns g c = λ events more one two.
    tables_joined events more c.in_ok-join.field-0 c.args.left.now.latest c.args.right.now.latest
    c.in_ok-join-2.field-0 c.args.left.now.marks c.args.right.now.marks
    c.in_ok-join-3.field-0 c.args.left.now.exits c.args.right.now.exits
    c.in_ok-join.ensures c.in_ok-join-2.ensures c.in_ok-join-3.ensures one two
