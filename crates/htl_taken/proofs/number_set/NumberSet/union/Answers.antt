-- The merged loose numbers from the greater front on are those of the union.
use Rattle.std.proofs.Common.{arith}
use Rattle.htl_taken.specs.declared.TheConstants.{MAX_FRONT}
use Rattle.htl_taken.specs.Numbers.{IsUnion}
use Rattle.htl_taken.specs.NumberSets.{numbers_of}
use Rattle.htl_taken.proofs.Rising.{Rises-lower}
use Rattle.htl_taken.proofs.Numbers.{IsUnion-merged}
use Rattle.htl_taken.proofs.number_set.NumberSet.union.Given.{Over}
use Rattle.htl_taken.proofs.number_set.NumberSet.union.Goals as goal

pub skip_below-requires : goal.skip_below-requires
skip_below-requires g c =
    let numbers = c.args.self.now in
    rw c.deref.ensures.value (Rises-lower numbers.front 0 MAX_FRONT numbers.loose.items (omega arith) numbers.proper)

pub skip_below-requires-2 : goal.skip_below-requires-2
skip_below-requires-2 g c =
    let numbers = c.args.other.now in
    rw c.deref-2.ensures.value (Rises-lower numbers.front 0 MAX_FRONT numbers.loose.items (omega arith) numbers.proper)

united : (g : Over) (c : goal.In_ok-merge_into g)
    → IsUnion (numbers_of c.args.self.now) (numbers_of c.args.other.now)
    (record { front = c.max-front.result; loose = c.merge_into.new.target.items })
united g c =
    let numbers = c.args.self.now in
    let other = c.args.other.now in
    let made = rw (
      c.new-loose.ensures.items,
      c.skip_below.ensures,
      c.deref.ensures.value,
      c.skip_below-2.ensures,
      c.deref-2.ensures.value,
    ) at c.in_ok-merge_into.ensures in
    IsUnion-merged (numbers_of numbers) (numbers_of other) c.max-front.result c.merge_into.new.target.items
    (record { rises = numbers.proper }) (record { rises = other.proper }) c.max-front.ensures made

pub invariant_of-result : goal.invariant_of-result
invariant_of-result g c = record { proper = (united g c).proper.rises }

pub returns : goal.returns
returns g c = united g c.before
