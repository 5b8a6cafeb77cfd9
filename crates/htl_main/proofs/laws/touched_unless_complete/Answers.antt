-- The law: a coverage is touched exactly where the case isn't complete up to the moment.
use Rattle.htl_main.proofs.Touched.{touched}
use Rattle.htl_main.proofs.laws.touched_unless_complete.Goals as goal

pub returns : goal.returns
returns c T coverage until is = touched T coverage is until
