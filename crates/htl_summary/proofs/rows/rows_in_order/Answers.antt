-- A sum more adds its row, if it has one, to what the sums before it come to.
use Rattle.std.proofs.Common.{rules, ◌≡◌, ◌+◌, ◌++◌, true, [], ◌∷◌, get_or, take, drop, Option, subst, arith, sym, ap, ◌∙◌}
use Rattle.std.specs.List.{filter_map}
use Rattle.std.proofs.lemmas.List.{take_more, take-append-drop}
use Rattle.std.proofs.lemmas.List.Elements.{filter_map-append}
use Rattle.htl_event.specs.declared.slot.Slot.{Slot}
use Rattle.htl_event.specs.declared.slot.Count.{Count}
use Rattle.htl_tree.proofs.Between.{no_count}
use Rattle.htl_answers.proofs.FilterMaps.{one_row_more, no_row_more}
use Rattle.htl_summary.specs.Totals.{CanAddUp}
use Rattle.htl_summary.proofs.Totals.{total-own, added_up-more, fits_first, fits_both}
use Rattle.htl_summary.proofs.rows.rows_in_order.Goals as goal
use Rattle.htl_summary.proofs.rows.rows_in_order.Goals.{in-Some+in_ok-add_row+else-not-branch, in_default}

pub add_row-requires-clause-fits : goal.add_row-requires-clause-fits
add_row-requires-clause-fits g c = λ x found.
    let key = g.R.OwnedRow.owner_of in
    let join = g.R.OwnedRow.joined in
    let sums = c.args.sums.now in
    let i = c.loop-slot.slot-index in
    let row = c.in-Some.row in
    let of_sum : Slot × Count → Option g.row.R.Denot = λ s. g.R.OwnedRow.row_of_sum s.0 s.1 in
    let so_far = filter_map of_sum (take i sums) in
    let after = filter_map of_sum (drop (i + 1) sums) in
    let more : filter_map of_sum (take (i + 1) sums) ≡ so_far ++ row ∷ [] =
    ap (filter_map of_sum) (take_more sums i no_count c.loop-slot-test.true)
    ∙ one_row_more of_sum (take i sums) (get_or sums i no_count) row (sym c.from_sum.ensures ∙ c.in-Some.is) in
    let cut : filter_map of_sum sums ≡ (so_far ++ row ∷ []) ++ after =
    ap (filter_map of_sum) (sym (take-append-drop (i + 1) sums)) ∙ filter_map-append of_sum (take (i + 1) sums) (drop (i + 1) sums)
    ∙ ap (λ l. l ++ after) more in
    fits_both key join g.R.OwnedRow.can_join so_far (row ∷ [])
    (fits_first key join g.R.OwnedRow.can_join (so_far ++ row ∷ []) after (subst (CanAddUp key join g.R.OwnedRow.can_join) cut c.requires.fits))
    (key row) x row (sym (c.loop-slot.invariant.added_up.values (key row)) ∙ found) (total-own key join row)

pub loop-slot-preserved : goal.loop-slot-preserved
loop-slot-preserved g c =
    let sums = c.args.sums.now in
    let i = c.loop-slot.slot-index in
    let sum = get_or sums i no_count in
    let of_sum : Slot × Count → Option g.row.R.Denot = λ s. g.R.OwnedRow.row_of_sum s.0 s.1 in
    let so_far = filter_map of_sum (take i sums) in
    let found = c.from_sum.ensures in
    let kept = c.loop-slot.invariant in
    let longer = ap (filter_map of_sum) (take_more sums i no_count c.loop-slot-test.true) in
    elim c.match-from_sum.branch [
      | in-Some+in_ok-add_row+else-not-branch w ↦
          let row = w.in-Some.row in
          let added : w.in_ok-add_row.field-0 ≡ true = search rules in
          let more = longer ∙ one_row_more of_sum (take i sums) sum row (sym found ∙ w.in-Some.is) in
          rw (more, w.rows-is) (record {
            added_up = added_up-more g.R.OwnedRow.owner_of g.R.OwnedRow.joined c.requires.associative so_far c.loop-slot.rows.items _ row
                kept.added_up (w.in_ok-add_row.ensures.sorted added) (w.in_ok-add_row.ensures.values added);
            begun = λ some. omega arith;
          })
      | in_default w ↦
          let less = longer ∙ no_row_more of_sum (take i sums) sum (λ y e. w.in_default.not-Some y (found ∙ e)) in
          rw (less, w.rows-is) (record { added_up = kept.added_up; begun = λ some. omega arith })
    ]
