-- The next record is the first of those left.
use Rattle.std.proofs.Common.{length, refl, sym, ap, ◌∙◌, arith}
use Rattle.htl_segment.proofs.NextRecord.{events_in-none, events_in-next}
use Rattle.htl_segment.proofs.records.RecordsIterator.next.Goals as goal

pub returns-then-self-eq0-clause-steps : goal.returns-then-self-eq0-clause-steps
returns-then-self-eq0-clause-steps c =
    let none = sym c.self.view_is ∙ events_in-none c.self.inside.left c.self.inside.rest.now c.if-self-eq0.true in
    (none, none)

pub returns-clause-steps : goal.returns-clause-steps
returns-clause-steps c =
    sym c.self.view_is ∙ events_in-next c.self.inside.left c.self.inside.rest.now (c.if-self-eq0.false)
    ∙ rw (c.split.ensures.event, c.split.ensures.rest) refl

pub returns-clause-goes : goal.returns-clause-goes
returns-clause-goes c =
    let fewer = ap length (returns-clause-steps c) in
    record { on = λ _. (tt, tt, omega (arith, fewer)); keeps = tt; rests = λ _. tt }
