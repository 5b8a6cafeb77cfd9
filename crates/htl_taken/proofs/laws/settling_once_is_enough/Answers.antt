-- A front that was settled can't move.
use Rattle.htl_taken.proofs.SetLaws as lemmas
use Rattle.htl_taken.proofs.laws.settling_once_is_enough.Goals as goal

pub returns : goal.returns
returns c = lemmas.settles_once
