-- The rows of a standing analyst are well-formed.
use Rattle.htl_saved.proofs.WellFormedRows.{are_plain, are_well_formed}
use Rattle.htl_saved.proofs.laws.rows_are_well_formed.Goals as goal

pub returns-clause-plain : goal.returns-clause-plain
returns-clause-plain c = are_plain

pub returns-clause-well_formed : goal.returns-clause-well_formed
returns-clause-well_formed c = are_well_formed
