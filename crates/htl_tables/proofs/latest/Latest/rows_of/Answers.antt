-- The rows of a process stand together, and list the table's events of it by base handle.
use Rattle.htl_tables.proofs.ProcessRows.{by_process, process_listed}
use Rattle.htl_tables.proofs.latest.Latest.rows_of.Goals as goal

pub of_process-requires : goal.of_process-requires
of_process-requires g c = rw c.deref.ensures.value (by_process c.self.inside.rows.items c.self.invariant)

pub returns-clause-listed : goal.returns-clause-listed
returns-clause-listed g c = rw (c.of_process.ensures, c.deref.ensures.value, ← c.self.view_is)
    (process_listed c.self.inside.rows.items c.args.process c.self.invariant)
