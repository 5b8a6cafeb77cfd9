-- The front and the number of the loose ones add up to no more than the greatest front.
use Rattle.std.proofs.Common.{arith}
use Rattle.htl_taken.specs.declared.TheConstants.{MAX_FRONT}
use Rattle.htl_taken.proofs.Rising.{length-Rises}
use Rattle.htl_taken.proofs.number_set.NumberSet.len.Goals as goal

pub returns-clause-fits : goal.returns-clause-fits
returns-clause-fits g c =
    let numbers = c.args.self.now in
    omega (
      arith,
      length-Rises numbers.front MAX_FRONT numbers.loose.items numbers.proper,
      numbers.loose.ok.0,
      c.from.ensures,
      c.len.ensures,
    )
