-- The events of the lists so far are counted.
use Rattle.std.proofs.Common.{◌≤◌, take, length}
use Rattle.std.specs.List.{flat_map}
use Rattle.htl_tree.specs.Rows.{AreRows, HaveTally}
use Rattle.htl_tree.proofs.counting.Counting.of.Given as goal

abbrev pub invariant-loop-list : goal.invariant-loop-list
invariant-loop-list g l = record {
  rows : AreRows l.counting.rows.items l.counting.total;
  tally : HaveTally l.counting.rows.items (flat_map g.R.EventList.events_of (take l.list-index l.lists));
  total : l.counting.total ≤ length (flat_map g.R.EventList.events_of (take l.list-index l.lists));
}
