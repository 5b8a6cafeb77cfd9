-- Trees that count the same have the same rows in one order.
use Rattle.htl_tree.proofs.TreesAsLists.{canonical_trees}
use Rattle.htl_tree.proofs.laws.equal_tallies_have_one_tree.Goals as goal

pub returns : goal.returns
returns c tree other a b same = canonical_trees tree other a.ordered a.positive b.ordered b.positive same
