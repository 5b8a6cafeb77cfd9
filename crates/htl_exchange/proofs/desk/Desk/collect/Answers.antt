-- Neither a refused nor a finished collect takes anything from the analyst.
use Rattle.std.proofs.Common.{sym, subst}
use Rattle.htl_analyst.specs.States.{State}
use Rattle.htl_analyst.specs.Keys.{HasTaken}
use Rattle.htl_exchange.proofs.desk.Desk.collect.Goals as goal

pub returns-in_err-take_in-clause-grows : goal.returns-in_err-take_in-clause-grows
returns-in_err-take_in-clause-grows g c = λ p n h.
    c.take_in.ensures.grows p n (subst (λ (a : State). HasTaken a p n) (sym c.fetch-collected.ensures.analyst) h)

pub returns-in_err-compact-clause-grows : goal.returns-in_err-compact-clause-grows
returns-in_err-compact-clause-grows g c = λ p n h.
    c.compact.ensures.grows p n (c.take_in.ensures.grows p n (subst (λ (a : State). HasTaken a p n) (sym c.fetch-collected.ensures.analyst) h))

pub returns-clause-grows : goal.returns-clause-grows
returns-clause-grows g c = λ p n h.
    c.compact.ensures.grows p n (c.take_in.ensures.grows p n (subst (λ (a : State). HasTaken a p n) (sym c.fetch-collected.ensures.analyst) h))
