-- An event more of the kind adds its process and sequence, and any other adds nothing.
use Rattle.std.proofs.Common.{◌≡◌, ◌<◌, ◌++◌, ◌∷◌, [], length, take, arith, sym, ap, ◌∙◌, inl, inr}
use Rattle.std.proofs.lemmas.Bool.{cases_eq, both_ways}
use Rattle.std.proofs.lemmas.List.{take_more, take_all}
use Rattle.htl_event.specs.Events.{Event}
use Rattle.htl_tables.proofs.Moments.{moments_none, moments_more, moments_skip}
use Rattle.htl_tables.proofs.greatest.gather.Goals as goal
use Rattle.htl_tables.proofs.greatest.gather.Goals.{then-has_row+in_ok-push, else-has_row}

pub loop-event-init : goal.loop-event-init
loop-event-init g c = moments_none g.K.EventKind.kind c.args.moments.now.items

pub loop-event-preserved : goal.loop-event-preserved
loop-event-preserved g c =
    let events = c.args.events.now in
    let i = c.loop-event.event-index in
    let e = c.event-item.result in
    let lt : i < length events = omega arith in
    let more = take_more events i e lt ∙ ap (λ (x : Event). take i events ++ x ∷ []) (sym c.event-item.is) in
    elim c.if-has_row.branch [
      | then-has_row+in_ok-push w ↦
          let is = c.has_row.ensures.0 w.if-has_row.true in
          rw (more, w.moments-is, w.in_ok-push.ensures.items)
          (moments_more g.K.EventKind.kind c.args.moments.now.items
          (take i events) c.loop-event.moments.items e c.loop-event.invariant is.0 is.1)
      | else-has_row w ↦
          let none : e.kind ≡ g.K.EventKind.kind → e.sequence ≡ 0 = λ k. elim (cases_eq e.sequence 0) [
            | inl z ↦ z
            | inr above ↦ absurd (both_ways c.has_row.result w.if-has_row.false (c.has_row.ensures.1 (k, omega (arith, above))))
          ] in
          rw (more, w.moments-is) (moments_skip g.K.EventKind.kind c.args.moments.now.items
          (take i events) c.loop-event.moments.items e c.loop-event.invariant none)
    ]

pub returns : goal.returns
returns g c =
    let all = take_all c.loop-event.event-index c.args.events.now (omega arith) in
    rw all at c.loop-event.invariant
