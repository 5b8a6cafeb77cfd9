-- All rows of a tree are a tally, and that of the tree.
use Rattle.htl_tree.proofs.RowsOfTally.{rows_are_tally}
use Rattle.htl_tree.proofs.laws.all_rows_make_their_tree.Goals as goal

pub returns : goal.returns
returns c tree rows h small lists = rows_are_tally tree h small rows lists
