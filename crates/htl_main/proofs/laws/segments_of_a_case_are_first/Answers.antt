-- The segments of a case are the first of their keys, and every question can be asked over them.
use Rattle.htl_main.proofs.Collections.{case_asked, case_of_firsts}
use Rattle.htl_main.proofs.laws.segments_of_a_case_are_first.Goals as goal

pub returns-clause-case : goal.returns-clause-case
returns-clause-case c = case_of_firsts

pub returns-clause-asked : goal.returns-clause-asked
returns-clause-asked c = case_asked
