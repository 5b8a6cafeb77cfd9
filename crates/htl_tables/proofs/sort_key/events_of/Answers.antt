-- The event of each key opens or closes a handle, so it comes to the others.
use Rattle.std.proofs.Common.{get_or, arith, [], ◌∷◌}
use Rattle.std.proofs.lemmas.Bool.{both_ways}
use Rattle.std.proofs.lemmas.List.{length-append}
use Rattle.std.proofs.lemmas.List.Elements.{Contains-get_or}
use Rattle.std.proofs.lemmas.Option.{slice_get-get_or}
use Rattle.htl_tables.specs.declared.sort_key.SortKey.{SortKey}
use Rattle.htl_tables.specs.OfProcess.{touches}
use Rattle.htl_tables.proofs.ChosenKeys.{touches-opens}
use Rattle.htl_tables.proofs.EventsOfKeys.{one_more}
use Rattle.htl_tables.proofs.FirstKeys.{key_is}
use Rattle.htl_tables.proofs.sort_key.events_of.Goals as goal
use Rattle.htl_tables.proofs.sort_key.events_of.Goals.{then-may_open_or_close+in_ok-push, else-may_open_or_close}

abbrev no_key : SortKey
no_key = record { process = 0; base = 0; sequence = record { 0 = 0 }; list = 0; index = 0 }

pub event-event-requires : goal.event-event-requires
event-event-requires g c =
    let keys = c.args.keys.now in
    let n = c.loop-key.key-index in
    let key = c.requires (get_or keys n no_key) (Contains-get_or keys n no_key c.loop-key-test.true) in
    (key.event, key.stands)

pub loop-key-preserved : goal.loop-key-preserved
loop-key-preserved g c =
    let keys = c.args.keys.now in
    let n = c.loop-key.key-index in
    let key = get_or keys n no_key in
    let here = c.requires key (Contains-get_or keys n no_key c.loop-key-test.true) in
    let e = c.event-event.result in
    let events = c.loop-key.events.items in
    let are = c.loop-key.invariant.0 in
    let all = c.loop-key.invariant.1 in
    let opens = touches-opens c.args.chosen e.now
    (key_is g.R.EventList.events_of c.args.lists.now (touches c.args.chosen) key e.now here c.event-event.ensures).passes in
    elim c.if-may_open_or_close.branch [
      | then-may_open_or_close+in_ok-push w ↦ (
        rw (w.events-is, w.in_ok-push.ensures.items)
            (one_more g.R.EventList.events_of c.args.lists.now keys events key e are
            (rw all (slice_get-get_or keys n no_key c.loop-key-test.true)) c.event-event.ensures),
        rw (w.events-is, w.in_ok-push.ensures.items, length-append events (e ∷ [])) (omega (arith, all)),
      )
      | else-may_open_or_close w ↦ absurd (both_ways c.may_open_or_close.result w.if-may_open_or_close.false
          (c.may_open_or_close.ensures opens))
    ]
