-- The counts so far and the next one add up to no more than all.
use Rattle.std.proofs.Common.{ℕ, List, ap, arith}
use Rattle.std.proofs.lemmas.List.Sums.{sum_by_more, sum_by_more_le}
use Rattle.htl_event.specs.declared.slot.Slot.{Slot}
use Rattle.htl_event.specs.declared.slot.Count.{Count}
use Rattle.htl_event.specs.Tallies.{total_of}
use Rattle.htl_tree.proofs.tally.total_of_rows.Goals as goal

abbrev Counted : Type 0
Counted = (Slot × List ℕ) × Count

abbrev weight : Counted → ℕ
weight row = total_of row.1

pub returns-in_err-checked_add-clause-none : goal.returns-in_err-checked_add-clause-none
returns-in_err-checked_add-clause-none c none =
    let rows = c.args.rows.now in
    let i = c.loop-count.count-index in
    let most = sum_by_more_le weight rows i c.loop-count-item.result c.loop-count-test.true in
    let its = ap weight c.loop-count-item.is in
    omega (arith, most, its, c.loop-count.invariant.sum, c.in_err-checked_add.ensures)

pub returns-in_err-total-clause-none : goal.returns-in_err-total-clause-none
returns-in_err-total-clause-none c none =
    let rows = c.args.rows.now in
    let i = c.loop-count.count-index in
    let most = sum_by_more_le weight rows i c.loop-count-item.result c.loop-count-test.true in
    let its = ap weight c.loop-count-item.is in
    omega (arith, most, its, c.loop-count.invariant.sum, c.in_ok-checked_add.ensures, c.in_err-total.ensures)

pub loop-count-preserved : goal.loop-count-preserved
loop-count-preserved c =
    let rows = c.args.rows.now in
    let i = c.loop-count.count-index in
    let more = sum_by_more weight rows i c.loop-count-item.result c.loop-count-test.true in
    let its = ap weight c.loop-count-item.is in
    record {
      sum = omega (arith, more, its, c.loop-count.invariant.sum, c.in_ok-checked_add.ensures, c.in_ok-total.ensures);
      small = omega (arith, c.in_ok-total.ensures);
    }
