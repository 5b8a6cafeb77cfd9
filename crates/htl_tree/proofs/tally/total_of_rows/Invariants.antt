-- The total so far is the sum of the counts that were passed.
use Rattle.std.proofs.Common.{◌≡◌, ℕ, ◌<◌, ◌^◌, List, take}
use Rattle.std.specs.List.{sum_by}
use Rattle.htl_event.specs.declared.slot.Slot.{Slot}
use Rattle.htl_event.specs.declared.slot.Count.{Count}
use Rattle.htl_event.specs.Tallies.{total_of}
use Rattle.htl_tree.proofs.tally.total_of_rows.Given as goal

abbrev pub invariant-loop-count : goal.invariant-loop-count
invariant-loop-count l = record {
  sum : l.total ≡ sum_by (λ (row : (Slot × List ℕ) × Count). total_of row.1) (take l.count-index l.rows);
  small : l.total < 2 ^ 64;
}
