-- The usages fit, and are what the sums of slots say.
use Rattle.htl_summary.proofs.Fitting.{usages_fit}
use Rattle.htl_summary.proofs.by_process.usages_of_slots.Goals as goal

pub rows_by_owner-requires-clause-fits : goal.rows_by_owner-requires-clause-fits
rows_by_owner-requires-clause-fits c = usages_fit c.args.sums.now c.requires
