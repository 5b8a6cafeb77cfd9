-- Tables with nothing in them are those of no events.
use Rattle.htl_answers.proofs.JoinedTables.{tables_none}
use Rattle.htl_summary.proofs.tables.no_tables.Goals as goal

pub returns : goal.returns
returns g c = rw (c.new.ensures, c.new-2.ensures, c.new-3.ensures) tables_none
