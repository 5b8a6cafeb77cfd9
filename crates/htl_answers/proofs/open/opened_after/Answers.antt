-- An event more that is an open after the moment is copied, and any other is left out.
use Rattle.std.proofs.Common.{[], ◌∷◌, ◌++◌, List, sym, ap, ◌∙◌}
use Rattle.htl_event.specs.Events.{Event}
use Rattle.htl_answers.specs.Open.{is_opened_after}
use Rattle.htl_answers.proofs.Filters.{one_added, none_added}
use Rattle.htl_answers.proofs.open.opened_after.Goals as goal
use Rattle.htl_answers.proofs.open.opened_after.Goals.{then-is_opened_after+in_ok-copy+in_ok-push, else-is_opened_after}

pub loop-event-preserved : goal.loop-event-preserved
loop-event-preserved c =
    let events = c.args.latest.now in
    let i = c.loop-event.event-index in
    let e = c.event-item.result in
    let rows = c.loop-event.rows.items in
    let old : List Event = [] in
    elim c.if-is_opened_after.branch [
      | then-is_opened_after+in_ok-copy+in_ok-push w ↦
          let more = w.in_ok-push.ensures.items ∙ ap (λ (x : Event). rows ++ x ∷ []) w.in_ok-copy.ensures in
          rw w.rows-is (one_added (is_opened_after c.args.moment) old events i e c.loop-event-test.true c.event-item.is rows _
          c.loop-event.invariant (sym c.is_opened_after.ensures ∙ w.if-is_opened_after.true) more)
      | else-is_opened_after w ↦
          rw w.rows-is (none_added (is_opened_after c.args.moment) old events i e c.loop-event-test.true c.event-item.is rows
          c.loop-event.invariant (sym c.is_opened_after.ensures ∙ w.if-is_opened_after.false))
    ]
