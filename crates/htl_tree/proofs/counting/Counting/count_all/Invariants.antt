-- The rows count the events so far.
use Rattle.std.proofs.Common.{List, ◌+◌, ◌≤◌, ◌++◌, take}
use Rattle.htl_event.specs.Events.{Event}
use Rattle.htl_tree.specs.Rows.{AreRows, HaveTally}
use Rattle.htl_tree.proofs.counting.Counting.count_all.Given as goal

abbrev pub invariant-loop-index : goal.invariant-loop-index
invariant-loop-index g l = record {
  rows : AreRows l.self.rows.items l.self.total;
  tally : (before : List Event) → HaveTally l.initial.self.rows.items before
      → HaveTally l.self.rows.items (before ++ take l.index l.events);
  total : l.self.total ≤ l.initial.self.total + l.index;
}
