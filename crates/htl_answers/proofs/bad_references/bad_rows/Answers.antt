-- A count of one of the process's bad slots adds its row, and any other adds nothing.
use Rattle.std.proofs.Common.{◌++◌, ◌∷◌, [], take, refl, sym, ap, ◌∙◌}
use Rattle.std.specs.List.{filter_map}
use Rattle.std.proofs.lemmas.List.{take_more}
use Rattle.htl_answers.proofs.FilterMaps.{one_row_more, no_row_more}
use Rattle.htl_answers.proofs.BadLemmas.{row_of, some_row, no_row}
use Rattle.htl_answers.proofs.bad_references.bad_rows.Goals as goal
use Rattle.htl_answers.proofs.bad_references.bad_rows.Goals.{in-Some+in_ok-copy+in_ok-push, in_default}

pub loop-slot-preserved : goal.loop-slot-preserved
loop-slot-preserved c =
    let counts = c.args.counts.now in
    let i = c.loop-slot.slot-index in
    let row = c.loop-slot-item.result in
    let f = row_of c.args.process in
    let found = c.bad_handle.ensures row.0.1 row.1 in
    let kept = c.loop-slot.invariant in
    let longer = ap (filter_map f) (take_more counts i row c.loop-slot-test.true
    ∙ ap (λ x. take i counts ++ x ∷ []) (sym c.loop-slot-item.is)) in
    elim c.match-bad_handle.branch [
      | in-Some+in_ok-copy+in_ok-push w ↦
          let more = longer ∙ one_row_more f (take i counts) row (w.in-Some.handle, row.0.1, row.1.plus)
          (found ∙ some_row row.0.1 row.1 c.bad_handle.result w.in-Some.handle w.in-Some.is) in
          rw (more, w.rows-is, w.in_ok-push.ensures.items, w.in_ok-copy.ensures, kept) refl
      | in_default w ↦
          let less = longer ∙ no_row_more f (take i counts) row
          (λ y e. no_row row.0.1 row.1 c.bad_handle.result w.in_default.not-Some y (sym found ∙ e)) in
          rw (less, w.rows-is) kept
    ]
