-- So far the rows have the listed events of the lists that were gone through.
use Rattle.std.proofs.Common.{◌≡◌, take}
use Rattle.std.specs.Prelude.{filter, flat_map}
use Rattle.htl_case.specs.Listed.{is_of_handle}
use Rattle.htl_case.proofs.listing.events_of_handle.Given as goal

abbrev pub invariant-loop-list : goal.invariant-loop-list
invariant-loop-list g l =
    l.rows.items ≡ filter (is_of_handle l.process l.base) (flat_map g.E.EventList.events_of (take l.list-index l.lists))
