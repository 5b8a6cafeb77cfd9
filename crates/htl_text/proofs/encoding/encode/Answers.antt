-- What reading the text line by line comes to is what the contract says.
use Rattle.htl_text.proofs.Outcomes.{answer_found, answer_only, answer_cause, answer_fault}
use Rattle.htl_text.proofs.encoding.encode.Goals as goal

pub returns-clause-found : goal.returns-clause-found
returns-clause-found c =
    answer_found (λ v. v.items) c.args.text.now c.read_text.result (rw (c.without_mark.ensures) at c.read_text.ensures.outcome)

pub returns-clause-only : goal.returns-clause-only
returns-clause-only c =
    answer_only (λ v. v.items) c.args.text.now c.read_text.result (rw (c.without_mark.ensures) at c.read_text.ensures.outcome)

pub returns-clause-cause : goal.returns-clause-cause
returns-clause-cause c =
    answer_cause (λ v. v.items) c.args.text.now c.read_text.result (rw (c.without_mark.ensures) at c.read_text.ensures.outcome)
    (rw (c.without_mark.ensures) at c.read_text.ensures.memory)

pub returns-clause-fault : goal.returns-clause-fault
returns-clause-fault c =
    answer_fault (λ v. v.items) c.args.text.now c.read_text.result (rw (c.without_mark.ensures) at c.read_text.ensures.outcome)
