-- A change more that opened a handle adds its start, and any other adds nothing.
use Rattle.std.proofs.Common.{false, take, get_or, refl, sym, ap, ◌∙◌}
use Rattle.std.specs.List.{filter_map}
use Rattle.std.proofs.lemmas.List.{take_more}
use Rattle.htl_answers.specs.declared.lives.Change.{Change}
use Rattle.htl_answers.specs.Lives.{start_of}
use Rattle.htl_answers.proofs.FilterMaps.{one_row_more, no_row_more}
use Rattle.htl_answers.proofs.lives.starts_of.Goals as goal
use Rattle.htl_answers.proofs.lives.starts_of.Goals.{in-Some+in_ok-push, in_default}

abbrev no_change : Change
no_change = record { base = 0; sequence = 0; opens = false }

pub loop-change-preserved : goal.loop-change-preserved
loop-change-preserved c =
    let changes = c.args.changes.now in
    let i = c.loop-change.change-index in
    let change = get_or changes i no_change in
    let found = c.start_of.ensures in
    let kept = c.loop-change.invariant in
    let longer = ap (filter_map start_of) (take_more changes i no_change c.loop-change-test.true) in
    elim c.match-start_of.branch [
      | in-Some+in_ok-push w ↦
          let more = longer ∙ one_row_more start_of (take i changes) change w.in-Some.start (sym found ∙ w.in-Some.is) in
          rw (more, w.starts-is, w.in_ok-push.ensures.items, kept) refl
      | in_default w ↦
          let less = longer ∙ no_row_more start_of (take i changes) change (λ y e. w.in_default.not-Some y (found ∙ e)) in
          rw (less, w.starts-is) kept
    ]
