-- The rows list what the table has, by process and base handle.
use Rattle.htl_tables.proofs.Tables.{rows_listed}
use Rattle.htl_tables.proofs.latest.Latest.rows.Goals as goal

pub returns-clause-listed : goal.returns-clause-listed
returns-clause-listed g c = rw (c.as_slice.ensures.value, ← c.self.view_is) (rows_listed c.self.inside.rows.items c.self.invariant)
