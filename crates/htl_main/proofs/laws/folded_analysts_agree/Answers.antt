-- A folded analyst took the segments of the case and no others, so it answers as one over its keys does.
use Rattle.htl_main.proofs.AnalystAnswers.{folded_analysts_agree}
use Rattle.htl_main.proofs.laws.folded_analysts_agree.Goals as goal

pub returns : goal.returns
returns c = folded_analysts_agree
