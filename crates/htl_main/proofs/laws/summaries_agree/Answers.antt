-- A summary of a case is an analyst's answers over its keys.
use Rattle.htl_main.proofs.AnalystAnswers.{summaries_agree}
use Rattle.htl_main.proofs.laws.summaries_agree.Goals as goal

pub returns : goal.returns
returns c = summaries_agree
