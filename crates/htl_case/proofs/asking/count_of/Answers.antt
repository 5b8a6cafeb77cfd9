-- The tree of all that was taken has the tally of the taken events.
use Rattle.std.proofs.Common.{◌∙◌}
use Rattle.htl_case.proofs.asking.count_of.Goals as goal

pub returns : goal.returns
returns g c T right = c.at.ensures ∙ c.in_ok-tree.ensures T right c.args.slot c.args.stack.now
