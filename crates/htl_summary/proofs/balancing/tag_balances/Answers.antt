-- The sums of slots give the number of objects, and balances that fit and that are those of the definition, once added up and put in order.
use Rattle.std.specs.Prelude.{Contains, ◌↔◌}
use Rattle.std.specs.List.{filter_map}
use Rattle.htl_event.specs.Balances.{Balance}
use Rattle.htl_summary.specs.Balancing.{tag_cmp, tag_same, listed, AreAdded}
use Rattle.htl_summary.proofs.AddedBalances.{given_fit}
use Rattle.htl_summary.proofs.TagRows.{Sum, row_of, made, are_balances, tags_differ}
use Rattle.htl_summary.proofs.balancing.tag_balances.Goals as goal

pub balances_of_slots-requires-clause-positive : goal.balances_of_slots-requires-clause-positive
balances_of_slots-requires-clause-positive g c = rw c.deref.ensures.value c.in_ok-sums.ensures.positive

pub add_up-requires-clause-proper : goal.add_up-requires-clause-proper
add_up-requires-clause-proper g c = tag_same

pub add_up-requires-clause-fits : goal.add_up-requires-clause-fits
add_up-requires-clause-fits g c =
    rw (c.in_ok-tags.ensures, c.deref-2.ensures.value)
    (given_fit row_of (λ (sum : Sum). sum.1) made c.in_ok-sums.sums.items c.in_ok-sums.ensures.positive c.in_ok-sums.ensures.fits)

pub put_most_first-requires : goal.put_most_first-requires
put_most_first-requires g c = rw c.keep_listed.ensures (tags_differ c.args.all c.add_up.new.rows.items c.add_up.ensures.rising)

pub returns-clause-tags : goal.returns-clause-tags
returns-clause-tags g c = λ events are.
    let sums = c.in_ok-sums.sums.items in
    let rows = c.add_up.new.rows.items in
    let added : AreAdded tag_cmp (filter_map row_of sums) rows = rw (c.in_ok-tags.ensures, c.deref-2.ensures.value) at c.add_up.ensures in
    let moved : (row : Balance) → Contains c.put_most_first.new.rows.items row ↔ Contains (listed c.args.all rows) row =
    (λ row. rw c.keep_listed.ensures at (c.put_most_first.ensures.members row)) in
    are_balances events sums rows (c.in_ok-sums.ensures.sums events are) added c.args.all c.put_most_first.new.rows.items
    c.put_most_first.ensures.rising moved
