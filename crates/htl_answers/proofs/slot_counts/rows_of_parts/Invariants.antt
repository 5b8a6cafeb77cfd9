-- The rows so far count the events of the parts that were passed, and no more than these.
use Rattle.std.proofs.Common.{◌≡◌, ◌≤◌, List, map, take}
use Rattle.htl_event.specs.Events.{Event}
use Rattle.htl_answers.specs.Parts.{AreEventsOf, size_of_all}
use Rattle.htl_answers.specs.Rows.{count_of, total_in, rows_of, EachPositive}
use Rattle.htl_answers.proofs.slot_counts.rows_of_parts.Given as goal

abbrev pub invariant-loop-part : goal.invariant-loop-part
invariant-loop-part g l = record {
  counts : (events : List Event) → AreEventsOf (map g.P.Part.contents (take l.part-index l.parts)) events → (k : g.row.L-Key.Denot)
      → count_of g.L.Key.Ord.cmp k l.rows.items ≡ count_of g.L.Key.Ord.cmp k (rows_of g.L.CountedBy.key_of l.slots events);
  positive : EachPositive l.rows.items;
  total : total_in l.rows.items ≤ size_of_all (map g.P.Part.contents (take l.part-index l.parts));
}
