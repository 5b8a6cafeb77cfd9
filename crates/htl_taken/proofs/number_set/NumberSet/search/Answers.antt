-- The loose numbers rise, so that they can be searched.
use Rattle.std.proofs.Common.{arith}
use Rattle.htl_taken.specs.declared.TheConstants.{MAX_FRONT}
use Rattle.htl_taken.proofs.Rising.{Rises-lower}
use Rattle.htl_taken.proofs.number_set.NumberSet.search.Goals as goal

pub position_of-requires : goal.position_of-requires
position_of-requires g c =
    let numbers = c.args.self.now in
    rw c.deref.ensures.value (Rises-lower numbers.front 0 MAX_FRONT numbers.loose.items (omega arith) numbers.proper)
