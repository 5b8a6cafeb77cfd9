-- The rows of all lists, the newest first, are the listing of the handle.
use Rattle.std.specs.Prelude.{flat_map}
use Rattle.htl_case.specs.Listed.{is_of_handle}
use Rattle.htl_case.proofs.EventLists.{filtered_all, filtered_more}
use Rattle.htl_case.proofs.Listings.{listing}
use Rattle.htl_case.proofs.listing.events_of_handle.Goals as goal

pub loop-list-preserved : goal.loop-list-preserved
loop-list-preserved g c =
    filtered_more g.E.EventList.events_of (is_of_handle c.args.process c.base-base.result) c.args.lists.now c.loop-list.list-index
    c.list-item.result c.loop-list.rows.items c.push_rows.new.rows.items c.loop-list-test.true c.list-item.is c.loop-list.invariant
    (rw c.events.ensures at c.in_ok-push_rows.ensures)

pub returns : goal.returns
returns g c = λ own.
    let events = flat_map g.E.EventList.events_of c.args.lists.now in
    let rows = filtered_all g.E.EventList.events_of (is_of_handle c.args.process c.base-base.result) c.args.lists.now c.loop-list.list-index
    c.loop-list.rows.items c.loop-list-test.false c.loop-list.invariant in
    listing events c.loop-list.rows.items c.newest_first.new.rows.items c.args.process c.base-base.result c.args.handle own
    c.base-base.ensures rows c.newest_first.ensures.moved c.newest_first.ensures.sorted
