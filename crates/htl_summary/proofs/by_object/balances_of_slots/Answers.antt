-- The rows fit, and are those of the definition, put in order, and their number is that of the objects.
use Rattle.std.proofs.Common.{◌<◌, length, ap, ◌∙◌}
use Rattle.std.specs.Prelude.{Contains, ◌↔◌, filter}
use Rattle.htl_event.specs.declared.summary.ObjectRow.{ObjectRow}
use Rattle.htl_answers.proofs.OpenLemmas.{rising-filter}
use Rattle.htl_summary.proofs.Fitting.{objects_fit}
use Rattle.htl_summary.proofs.ObjectRows.{shows, are_objects, are_unbalanced}
use Rattle.htl_summary.proofs.Sorted.{keys_differ, keys_rise}
use Rattle.htl_summary.proofs.by_object.balances_of_slots.Goals as goal

pub rows_by_owner-requires-clause-fits : goal.rows_by_owner-requires-clause-fits
rows_by_owner-requires-clause-fits c = objects_fit c.args.sums.now c.requires.fits c.requires.positive

pub put_most_first-requires : goal.put_most_first-requires
put_most_first-requires c =
    let object = λ (row : ObjectRow). row.object in
    let rows = c.in_ok-rows.rows.items in
    rw c.keep_counted.ensures (keys_differ object (filter shows rows)
    (rising-filter (λ a b. object a < object b) shows rows (keys_rise object (λ row. row) rows c.in_ok-rows.ensures.sorted)))

pub returns-clause-number : goal.returns-clause-number
returns-clause-number c = λ events listed.
    let sums = c.args.sums.now in
    let rows = c.in_ok-rows.rows.items in
    let all = are_objects events sums rows listed c.in_ok-rows.ensures.sorted c.in_ok-rows.ensures.values in
    (all.0, all.1, c.number_of-number.ensures ∙ ap length c.deref.ensures.value ∙ all.2)

pub returns-clause-unbalanced : goal.returns-clause-unbalanced
returns-clause-unbalanced c = λ events listed.
    let sums = c.args.sums.now in
    let rows = c.in_ok-rows.rows.items in
    let moved : (row : ObjectRow) → Contains c.put_most_first.new.rows.items row ↔ Contains (filter shows rows) row =
    (λ row. rw c.keep_counted.ensures at (c.put_most_first.ensures.members row)) in
    are_unbalanced events sums rows listed c.in_ok-rows.ensures.sorted c.in_ok-rows.ensures.values c.put_most_first.new.rows.items
    c.put_most_first.ensures.rising moved
