-- The rule stands of an empty queue and the first pass.
use Rattle.htl_exchange.proofs.Keeping.{begins}
use Rattle.htl_exchange.proofs.start.open.Goals as goal

pub ruled-requires-clause-rule : goal.ruled-requires-clause-rule
ruled-requires-clause-rule g c = begins
