-- Standing states of the whole of one trace have the same keys, and so they are the same.
use Rattle.htl_exchange.proofs.Wholes.{same_wholes}
use Rattle.htl_exchange.proofs.laws.surveys_are_the_same.Goals as goal

pub returns : goal.returns
returns c = same_wholes
