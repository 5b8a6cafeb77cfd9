-- A list more adds its moments, and sorting them keeps them.
use Rattle.std.proofs.Common.{◌≡◌, ◌+◌, ◌++◌, take, arith}
use Rattle.std.specs.Prelude.{flat_map}
use Rattle.std.proofs.lemmas.List.{take_all}
use Rattle.htl_tables.proofs.Moments.{moments_list, moments_sorted}
use Rattle.htl_tables.proofs.FlatPlaces.{flat_map-take}
use Rattle.htl_tables.proofs.greatest.moments_in.Goals as goal

pub loop-list-preserved : goal.loop-list-preserved
loop-list-preserved g c =
    let events_of = g.R.EventList.events_of in
    let lists = c.args.lists.now in
    let n = c.loop-list.list-index in
    let x = c.list-item.result in
    let more : flat_map events_of (take (n + 1) lists) ≡ flat_map events_of (take n lists) ++ events_of x =
    flat_map-take events_of lists n x c.loop-list-test.true c.list-item.is in
    rw more (moments_list g.K.EventKind.kind (flat_map events_of (take n lists)) (events_of x) c.loop-list.moments.items
    c.gather.new.moments.items c.loop-list.invariant (rw c.events.ensures at c.in_ok-gather.ensures))

pub returns : goal.returns
returns g c =
    let all = take_all c.loop-list.list-index c.args.lists.now (omega arith) in
    moments_sorted g.K.EventKind.kind (flat_map g.R.EventList.events_of c.args.lists.now) c.loop-list.moments.items
    c.sort_unstable.new.self.items (rw all at c.loop-list.invariant) c.sort_unstable.ensures.permutation
