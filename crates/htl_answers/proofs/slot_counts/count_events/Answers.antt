-- An event more whose slot is asked for is counted, and any other changes nothing.
use Rattle.std.proofs.Common.{◌≡◌, ◌+◌, ◌++◌, ◌∷◌, [], take, sym, ap, subst, ◌∙◌, append_assoc, arith}
use Rattle.std.specs.List.{filter_map}
use Rattle.std.specs.Option.{option_map}
use Rattle.std.proofs.lemmas.List.{take_more, length-take-le}
use Rattle.htl_event.specs.declared.slot.Slot.{Slot}
use Rattle.htl_event.specs.declared.slot.Sign.{Sign}
use Rattle.htl_event.specs.declared.slot.Count.{Count}
use Rattle.htl_answers.specs.Counts.{one_count}
use Rattle.htl_answers.specs.Rows.{row_of, CountAlike}
use Rattle.htl_answers.proofs.CountedAlike.{alike_more}
use Rattle.htl_answers.proofs.FilterMaps.{one_row_more, no_row_more}
use Rattle.htl_answers.proofs.EventRows.{no_row}
use Rattle.htl_answers.proofs.PartRows.{counted_upto}
use Rattle.htl_answers.proofs.slot_counts.count_events.Goals as goal
use Rattle.htl_answers.proofs.slot_counts.count_events.Goals.{in-Some+in_ok-count, in_default}

pub count-requires : goal.count-requires
count-requires g c =
    let events = c.args.events.now in
    let i = c.loop-event.event-index in
    let upto = counted_upto g.L.Key.Ord.cmp g.L.CountedBy.key_of c.args.slots c.args.rows.now.items [] [] [] (take i events)
    c.loop-event.rows.items c.loop-event.invariant in
    let few = length-take-le i events (omega (arith, c.loop-event-test.true)) in
    let fits = c.requires in
    let lt = c.loop-event-test.true in
    omega (arith, upto, few, fits, lt)

pub loop-event-preserved : goal.loop-event-preserved
loop-event-preserved g c =
    let events = c.args.events.now in
    let i = c.loop-event.event-index in
    let e = c.event-item.result in
    let old = c.args.rows.now.items in
    let cmp = g.L.Key.Ord.cmp in
    let key = g.L.CountedBy.key_of in
    let f = row_of key c.args.slots in
    let so_far = filter_map f (take i events) in
    let as_row : Slot × Sign → g.row.L-Key.Denot × Count = λ x. (key x.0 e.stack, one_count x.1) in
    let found = c.if_asked.ensures in
    let longer : filter_map f (take (i + 1) events) ≡ filter_map f (take i events ++ e ∷ []) =
    ap (filter_map f) (take_more events i e c.loop-event-test.true ∙ ap (λ x. take i events ++ x ∷ []) (sym c.event-item.is)) in
    elim c.match-if_asked.branch [
      | in-Some+in_ok-count w ↦
          let row : g.row.L-Key.Denot × Count = (key w.in-Some.slot e.stack, one_count w.in-Some.sign) in
          let more : (old ++ so_far) ++ row ∷ [] ≡ old ++ filter_map f (take (i + 1) events) =
          append_assoc old so_far (row ∷ [])
          ∙ ap (λ l. old ++ l) (sym (longer ∙ one_row_more f (take i events) e row (ap (option_map as_row) (sym found ∙ w.in-Some.is)))) in
          rw w.rows-is (subst (λ l. CountAlike cmp l w.count.new.rows.items) more
          (alike_more cmp (old ++ so_far) c.loop-event.rows.items (row ∷ []) w.count.new.rows.items c.loop-event.invariant w.in_ok-count.ensures))
      | in_default w ↦
          let less = longer ∙ no_row_more f (take i events) e
          (no_row as_row c.if_asked.result _ found w.in_default.not-Some) in
          rw w.rows-is (subst (λ l. CountAlike cmp (old ++ l) c.loop-event.rows.items) (sym less) c.loop-event.invariant)
    ]
