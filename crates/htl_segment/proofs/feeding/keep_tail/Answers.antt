-- The segments of the bytes come after those that were kept before.
use Rattle.std.proofs.Common.{rules, ◌≡◌, refl, vec_capacity}
use Rattle.htl_segment.specs.Bundles.{IsRest}
use Rattle.htl_segment.specs.Feeding.{HasRoom}
use Rattle.htl_segment.proofs.feeding.keep_tail.Goals as goal

pub returns-clause-taken : goal.returns-clause-taken
returns-clause-taken c =
    let gathered = c.in_ok-tail.ensures.gathered in
    let new = c.put_behind.new.rest in
    let left : IsRest new.items × HasRoom new.items (vec_capacity new) = search rules in
    let rest : new.items ≡ c.in_ok-tail.tail.now = search rules in (
      record { more = gathered.0; pushed = gathered.2 c.args.kept.now c.args.kept.now.list.items refl; splits = rw rest gathered.1 },
      left,
    )
