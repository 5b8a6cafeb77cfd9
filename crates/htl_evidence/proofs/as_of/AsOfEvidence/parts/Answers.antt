-- The events of the case up to the moment tell the answers over it.
use Rattle.htl_evidence.specs.Told.{as_of}
use Rattle.htl_evidence.proofs.TellLaws.{told_as_of}
use Rattle.htl_evidence.proofs.as_of.AsOfEvidence.parts.Goals as goal

pub returns-clause-told : goal.returns-clause-told
returns-clause-told g c = λ question T until of.
    let e = as_of c.self.inside.case.now c.self.inside.until c.self.inside.owner in
    rw (← c.self.view_is) (told_as_of e question T until c.self.invariant.0 (rw (← c.self.view_is) at of))
