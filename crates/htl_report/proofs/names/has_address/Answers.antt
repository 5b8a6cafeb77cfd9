-- A stack that isn't empty has an address.
use Rattle.htl_report.proofs.Stacked.{some_by_length}
use Rattle.htl_report.proofs.names.has_address.Goals as goal

pub returns-in-Some : goal.returns-in-Some
returns-in-Some c = rw (c.in-Some.is, c.is_empty.ensures, c.frames.ensures.value) (some_by_length c.in-Some.stack.now)
