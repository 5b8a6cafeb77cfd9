-- What the tree lists of all slots is its tally.
use Rattle.htl_saved.proofs.Tallies.{rows_are_tally}
use Rattle.htl_saved.proofs.tally.counts_of.Goals as goal

pub returns : goal.returns
returns g c = rows_are_tally c.args.tree.now c.total-total.ensures.tree c.in_ok-counts.counts.items c.in_ok-counts.ensures
