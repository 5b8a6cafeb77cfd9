-- The rows list what the table has, in order of the processes.
use Rattle.htl_tables.proofs.Sequences.{rows_listed}
use Rattle.htl_tables.proofs.greatest.Greatest.rows.Goals as goal

pub returns-clause-listed : goal.returns-clause-listed
returns-clause-listed g c = rw (c.as_slice.ensures.value, ← c.self.view_is) (rows_listed c.self.inside.rows.items c.self.invariant)
