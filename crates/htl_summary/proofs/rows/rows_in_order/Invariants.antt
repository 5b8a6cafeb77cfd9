-- The rows so far are those of the sums that were passed, added up, and there is none before the first sum.
use Rattle.std.proofs.Common.{◌<◌, length, take}
use Rattle.std.specs.List.{filter_map}
use Rattle.htl_event.specs.declared.slot.Slot.{Slot}
use Rattle.htl_event.specs.declared.slot.Count.{Count}
use Rattle.htl_summary.specs.Totals.{AreAddedUp}
use Rattle.htl_summary.proofs.rows.rows_in_order.Given as goal

abbrev pub invariant-loop-slot : goal.invariant-loop-slot
invariant-loop-slot g l = record {
  added_up : AreAddedUp g.R.OwnedRow.owner_of g.R.OwnedRow.joined
      (filter_map (λ (sum : Slot × Count). g.R.OwnedRow.row_of_sum sum.0 sum.1) (take l.slot-index l.sums)) l.rows.items;
  begun : 0 < length l.rows.items → 0 < l.slot-index;
}
