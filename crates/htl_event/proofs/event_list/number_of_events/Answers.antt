-- The lists so far and the next one have no more events than all.
use Rattle.std.proofs.Common.{◌≡◌, ◌+◌, ◌≤◌, length, take, get_or, ap, ◌∙◌, arith}
use Rattle.std.specs.List.{flat_map}
use Rattle.std.proofs.lemmas.List.Folds.{length-flat_map-take}
use Rattle.htl_event.proofs.event_list.number_of_events.Goals as goal

pub returns-in_err-number-clause-none : goal.returns-in_err-number-clause-none
returns-in_err-number-clause-none g c none =
    let lists = c.args.lists.now in
    let i = c.loop-list.list-index in
    let of = g.R.EventList.events_of in
    let most : length (flat_map of (take i lists)) + length (of (get_or lists i c.list-item.result)) ≤ length (flat_map of lists) =
    length-flat_map-take of lists i c.list-item.result c.loop-list-test.true in
    let its : length (c.events.result.now) ≡ length (of (get_or lists i c.list-item.result)) = ap length c.events.ensures
    ∙ ap (λ r. length (of r)) c.list-item.is in
    omega (arith, most, its, c.loop-list.invariant, c.checked_add.ensures)
