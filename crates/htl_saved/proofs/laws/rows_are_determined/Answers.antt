-- Rows of one analyst are equal.
use Rattle.htl_saved.proofs.Determined.{are_determined}
use Rattle.htl_saved.proofs.laws.rows_are_determined.Goals as goal

pub returns : goal.returns
returns c = are_determined
