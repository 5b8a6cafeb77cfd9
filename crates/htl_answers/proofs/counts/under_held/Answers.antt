-- The count under the path gains what the events of one list more count there.
use Rattle.std.proofs.Common.{◌≡◌, ◌+◌, ◌≤◌, length, take, get_or, ap, ◌∙◌, length-append, arith}
use Rattle.std.specs.Prelude.{flat_map}
use Rattle.std.proofs.lemmas.List.{take_all}
use Rattle.std.proofs.lemmas.List.Folds.{length-flat_map-take}
use Rattle.htl_event.specs.Tallies.{total_of}
use Rattle.htl_event.proofs.Counts.{counts_add_up}
use Rattle.htl_tables.proofs.FlatPlaces.{flat_map-take}
use Rattle.htl_answers.proofs.counts.under_held.Goals as goal

pub sum_of-sum-requires : goal.sum_of-sum-requires
sum_of-sum-requires g c =
    let lists = c.args.lists.now in
    let i = c.loop-list.list-index in
    let of = g.E.EventList.events_of in
    let x = c.list-item.result in
    let most : length (flat_map of (take i lists)) + length (of (get_or lists i x)) ≤ length (flat_map of lists) =
    length-flat_map-take of lists i x c.loop-list-test.true in
    let its : length (c.events.result.now) ≡ length (of (get_or lists i x)) = ap length c.events.ensures
    ∙ ap (λ r. length (of r)) c.list-item.is in
    omega (arith, c.requires, most, its, c.loop-list.invariant.few, c.under_events.ensures.few)

pub loop-list-preserved : goal.loop-list-preserved
loop-list-preserved g c =
    let lists = c.args.lists.now in
    let i = c.loop-list.list-index in
    let of = g.E.EventList.events_of in
    let x = c.list-item.result in
    let path = c.args.path.now in
    let slot = c.args.slot in
    let more = flat_map-take of lists i x c.loop-list-test.true c.list-item.is in
    let adds = (counts_add_up (flat_map of (take i lists)) (of x)).under path slot in
    let total = ap total_of c.sum_of-sum.ensures in
    let its : length (c.events.result.now) ≡ length (of x) = ap length c.events.ensures in
    let longer : length (flat_map of (take (i + 1) lists)) ≡ length (flat_map of (take i lists)) + length (of x) = ap length more
    ∙ length-append (flat_map of (take i lists)) (of x) in
    record {
      value = rw (more, adds, c.sum_of-sum.ensures, c.under_events.ensures.value, c.loop-list.invariant.value, c.events.ensures);
      few = omega (arith, total, its, longer, c.loop-list.invariant.few, c.under_events.ensures.few);
    }

pub returns : goal.returns
returns g c = record {
  value = rw (take_all c.loop-list.list-index c.args.lists.now (omega arith)) at c.loop-list.invariant.value;
  few = rw (take_all c.loop-list.list-index c.args.lists.now (omega arith)) at c.loop-list.invariant.few;
}
