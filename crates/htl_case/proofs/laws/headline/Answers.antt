-- The headline is what its lemmas show of histories.
use Rattle.htl_case.proofs.Headlines.{the_headline}
use Rattle.htl_case.proofs.laws.headline.Goals as goal

pub returns : goal.returns
returns c = the_headline
