-- What is reported of the sorted segments holds of those given, and without repeats each key comes once.
use Rattle.std.proofs.Common.{refl}
use Rattle.htl_case.proofs.Repeats.{least_moved, ordered_once}
use Rattle.htl_case.proofs.ordering.in_order.Goals as goal

pub returns-in-Some-clause-err : goal.returns-in-Some-clause-err
returns-in-Some-clause-err c = (
  c.in-Some.processor,
  c.in-Some.number,
  refl,
  least_moved c.args.segments.items c.sort_by_key.new.segments.items (c.in-Some.processor, c.in-Some.number) c.sort_by_key.ensures.moved
      (rw c.deref.ensures.value at c.in-Some.ensures),
)

pub returns-clause-ok : goal.returns-clause-ok
returns-clause-ok c =
    let content = rw c.deref.ensures.value at c.in_default.ensures in
    rw c.drop_repeats.ensures (ordered_once c.args.segments.items c.sort_by_key.new.segments.items c.sort_by_key.ensures.moved
    c.sort_by_key.ensures.sorted content)
