-- What is left and the counts so far are the number.
use Rattle.std.proofs.Common.{◌≡◌, ◌+◌, take}
use Rattle.std.specs.List.{sum_by}
use Rattle.htl_event.specs.Tallies.{total_of}
use Rattle.htl_state.specs.declared.rows.CountRow.{CountRow}
use Rattle.htl_saved.proofs.bounds.add_up_to.Given as goal

abbrev pub invariant-loop-row : goal.invariant-loop-row
invariant-loop-row l = l.left + sum_by (λ (row : CountRow). total_of row.count) (take l.row-index l.counts) ≡ l.most
