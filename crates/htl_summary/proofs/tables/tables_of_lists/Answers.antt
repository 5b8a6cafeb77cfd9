-- Tables of lists are those of their events.
use Rattle.htl_summary.proofs.tables.tables_of_lists.Goals as goal

pub returns : goal.returns
returns g c = record { latest_at = c.in_ok-of-3.ensures.latest; mark_at = c.in_ok-of.ensures; exit_at = c.in_ok-of-2.ensures }
