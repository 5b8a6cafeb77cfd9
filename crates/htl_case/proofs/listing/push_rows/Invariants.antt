-- So far the rows have the listed events of those that were gone through.
use Rattle.std.proofs.Common.{◌≡◌, ◌++◌, take}
use Rattle.std.specs.Prelude.{filter}
use Rattle.htl_case.specs.Listed.{is_of_handle}
use Rattle.htl_case.proofs.listing.push_rows.Given as goal

abbrev pub invariant-loop-event : goal.invariant-loop-event
invariant-loop-event l =
    l.rows.items ≡ l.initial.rows.items ++ filter (is_of_handle l.process l.base_handle) (take l.event-index l.events)
