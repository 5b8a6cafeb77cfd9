-- The row that was found counts one more.
use Rattle.std.proofs.Common.{rules, ℕ, List, ◌≡◌, ◌≤◌, length, get_or, sym, ap, arith}
use Rattle.std.proofs.Math.ListN.{get_or-map}
use Rattle.std.proofs.lemmas.List.{length-map}
use Rattle.std.proofs.lemmas.List.Sums.{get_or-le-sum_by}
use Rattle.htl_event.specs.Tallies.{total_of}
use Rattle.htl_event.specs.declared.slot.Slot.{Slot}
use Rattle.htl_event.specs.declared.slot.Count.{Count}
use Rattle.htl_tree.specs.Trees.{total_count}
use Rattle.htl_tree.specs.Rows.{entries_of}
use Rattle.htl_tree.proofs.RowsOneMore.{no_row, entry, one_more_there}
use Rattle.htl_tree.proofs.counting.count_in_row.Goals as goal

pub add_one-count-requires : goal.add_one-count-requires
add_one-count-requires c =
    let rows = c.args.rows.now in
    let i = c.args.place in
    let len : length (entries_of rows) ≡ length rows = length-map rows (λ row. entry row) in
    let at : total_of (get_or rows i no_row).count ≡ total_of (get_or (entries_of rows) i (entry no_row)).1 =
    ap (λ (x : (List ℕ × Slot) × Count). total_of x.1) (sym (get_or-map (λ row. entry row) rows i no_row)) in
    let most : total_of (get_or (entries_of rows) i (entry no_row)).1 ≤ total_count (entries_of rows) = get_or-le-sum_by
    (λ (x : (List ℕ × Slot) × Count). total_of x.1) (entries_of rows) i (entry no_row) (omega (arith, len, c.if-place-rows.false)) in
    omega (arith, at, most, c.requires)

pub returns-clause-counted : goal.returns-clause-counted
returns-clause-counted c was_counted =
    one_more_there c.args.stack.now c.args.slot c.args.sign c.args.rows.now c.args.place _ c.if-place-rows.false
    (c.counts.ensures.stack (search rules)) (c.counts.ensures.slot (search rules)) (c.counts.ensures.stack (search rules))
    (c.counts.ensures.slot (search rules)) c.add_one-count.ensures
