-- The events until the moment are left of one list more.
use Rattle.std.proofs.Common.{◌<◌, ◌≤◌, ◌∙◌, Bool, List, Vec, Global, ap, arith, length}
use Rattle.std.specs.Prelude.{filter, nat_le}
use Rattle.std.proofs.lemmas.List.{with_items_is}
use Rattle.htl_event.specs.Events.{Event}
use Rattle.htl_segment.specs.Picks.{events_in}
use Rattle.htl_case.proofs.EventLists.{all_filtered, none_filtered, one_filtered}
use Rattle.htl_case.proofs.picked.drop_all_after.Goals as goal

pub loop-list-init : goal.loop-list-init
loop-list-init c = none_filtered (λ e. nat_le e.sequence c.args.moment) c.deref_mut-list-items.result.now

pub loop-list-preserved : goal.loop-list-preserved
loop-list-preserved c =
    let inside : c.loop-list.list-index < length c.loop-list.list-items =
    omega (arith, c.loop-list-test.true, c.loop-list.invariant.long) in
    one_filtered (λ e. nat_le e.sequence c.args.moment) c.deref_mut-list-items.result.now c.loop-list.list-items c.loop-list.list-index
    c.drop_after.new.events c.list-item.result inside c.drop_after.ensures c.loop-list.invariant

pub returns : goal.returns
returns c =
    let until : Event → Bool = λ e. nat_le e.sequence c.args.moment in
    let past : length c.loop-list.list-items ≤ c.loop-list.list-index =
    omega (arith, c.loop-list-test.false, c.loop-list.invariant.long) in
    ap events_in (with_items_is c.args.lists.now c.loop-list.list-items (c.loop-list.auto.list-items ∙ c.deref_mut-list-items.ensures.len))
    ∙ all_filtered until c.deref_mut-list-items.result.now c.loop-list.list-items c.loop-list.list-index past c.loop-list.invariant
    ∙ ap (λ (lists : List (Vec Event Global)). filter until (events_in lists)) c.deref_mut-list-items.ensures.value
