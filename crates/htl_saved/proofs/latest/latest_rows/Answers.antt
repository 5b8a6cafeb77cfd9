-- The table has the stack of each event.
use Rattle.std.proofs.Common.{map, sym}
use Rattle.std.specs.Prelude.{Contains}
use Rattle.htl_event.specs.Events.{Event}
use Rattle.htl_event.proofs.Members.{at_member, Contains-map}
use Rattle.htl_saved.proofs.latest.latest_rows.Goals as goal

pub place_of-requires-clause-here : goal.place_of-requires-clause-here
place_of-requires-clause-here c =
    let latest = c.args.latest.now in
    let event = c.event-item.result in
    at_member (Contains c.args.table.now) (map (λ (e : Event). e.stack) latest) event.stack c.requires.here
    (Contains-map (λ (e : Event). e.stack) latest event (c.loop-event.event-index, c.loop-event-test.true, sym c.event-item.is))
