-- Equal keys have equal events, so all answers are over the same.
use Rattle.htl_analyst.proofs.KeyEvents.{agree}
use Rattle.htl_analyst.proofs.laws.analysts_agree.Goals as goal

pub returns : goal.returns
returns c = agree
