-- A new number fits into the gap, and the loose numbers still rise from the front on.
use Rattle.std.proofs.Common.{arith, rules}
use Rattle.htl_taken.specs.declared.TheConstants.{MAX_FRONT}
use Rattle.htl_taken.proofs.Rising.{Rises-insert, gap_within}
use Rattle.htl_taken.proofs.number_set.NumberSet.insert.Goals as goal

pub insert-requires : goal.insert-requires
insert-requires g c =
    let numbers = c.args.self.now in
    omega (arith, gap_within c.args.number numbers.loose.items, numbers.loose.ok.0, c.in-Err.ensures.position)

pub invariant_of-self : goal.invariant_of-self
invariant_of-self g c =
    let numbers = c.args.self.now in
    let one = Rises-insert numbers.front MAX_FRONT c.args.number numbers.loose.items numbers.proper c.if-number-self.false c.requires
    c.in-Err.ensures.absent.1 in
    record { proper = search (rules, one) }
