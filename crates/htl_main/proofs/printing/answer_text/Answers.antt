-- The lines are those of the answer as of the job's moment, and so is what is told of it.
use Rattle.htl_main.proofs.printing.answer_text.Goals as goal

pub returns-clause-lines : goal.returns-clause-lines
returns-clause-lines g c = λ known. (
  c.moment-until.result,
  c.moment-until.ensures known,
  c.in_ok-answer.answer,
  c.in_ok-answer.ensures,
  c.in_ok-lines.ensures,
)

pub returns-clause-remarks : goal.returns-clause-remarks
returns-clause-remarks g c = λ known. (
  c.moment-until.result,
  c.moment-until.ensures known,
  c.in_ok-answer.answer,
  c.in_ok-answer.ensures,
  c.remarks_on.ensures,
)
