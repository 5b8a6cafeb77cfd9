-- The balance is the prefix tally of the empty path.
use Rattle.std.proofs.Common.{[]}
use Rattle.htl_event.specs.declared.slot.Slot.TheVariants.{Tagged}
use Rattle.htl_tree.proofs.Events.{under_events}
use Rattle.htl_tree.proofs.laws.sums_are_balances.Goals as goal

pub returns : goal.returns
returns c tree events is tallied object tag = under_events tree is events tallied [] (Tagged object tag)
