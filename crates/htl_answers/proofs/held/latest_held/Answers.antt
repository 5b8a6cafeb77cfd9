-- The latest event over one list more is the later of that so far and the list's.
use Rattle.std.proofs.Common.{take, arith}
use Rattle.std.specs.Prelude.{flat_map}
use Rattle.std.proofs.lemmas.List.{take_all}
use Rattle.htl_event.proofs.Members.{Contains-nil}
use Rattle.htl_tables.proofs.FlatPlaces.{flat_map-take}
use Rattle.htl_answers.proofs.Appended.{latest_append}
use Rattle.htl_answers.proofs.held.latest_held.Goals as goal

pub loop-list-init : goal.loop-list-init
loop-list-init g c = λ x h k. Contains-nil x h

pub loop-list-preserved : goal.loop-list-preserved
loop-list-preserved g c =
    let of = g.E.EventList.events_of in
    let lists = c.args.lists.now in
    let i = c.loop-list.list-index in
    let x = c.list-item.result in
    let more = flat_map-take of lists i x c.loop-list-test.true c.list-item.is in
    rw (more, c.later_of-latest.ensures) (latest_append (flat_map of (take i lists))
    (of x) c.args.process c.args.base _ _ c.loop-list.invariant (rw c.events.ensures at c.latest_of_events.ensures))

pub returns : goal.returns
returns g c = rw (take_all c.loop-list.list-index c.args.lists.now (omega arith)) at c.loop-list.invariant
