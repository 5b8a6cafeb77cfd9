-- The lines are those of the answer over what was taken, of which all events count.
use denote.Param.Send.{sendable}
use Rattle.std.proofs.Common.{None, refl}
use Rattle.std.proofs.Crossing.{crosses}
use Rattle.htl_main.proofs.FoldLaws.{all_count}
use Rattle.htl_main.proofs.folding.answers.folded_text.Goals as goal

pub answer_of_folds-requires : goal.answer_of_folds-requires
answer_of_folds-requires g c = (search (sendable, crosses) depth 20, (all_count c.args.job.now c.requires.asked).0)

pub returns-in_default-clause-text : goal.returns-in_default-clause-text
returns-in_default-clause-text g c = λ segments T folded is. absurd (is.some (rw c.in_default.is at folded).taken)

pub returns-in_default-clause-remarks : goal.returns-in_default-clause-remarks
returns-in_default-clause-remarks g c = λ segments T folded is. absurd (is.some (rw c.in_default.is at folded).taken)

pub returns-in_default-clause-whole : goal.returns-in_default-clause-whole
returns-in_default-clause-whole g c = λ complete segments T folded some all. absurd (some (rw c.in_default.is at folded).taken)

pub returns-clause-text : goal.returns-clause-text
returns-clause-text g c = λ segments T folded asked. (
  None,
  rw (all_count c.args.job.now c.requires.asked).1 refl,
  c.in_ok-answer.answer,
  c.in_ok-answer.ensures segments T (rw c.in-Some.is at folded) asked,
  c.in_ok-lines.ensures,
)

pub returns-clause-remarks : goal.returns-clause-remarks
returns-clause-remarks g c = λ segments T folded asked. (
  None,
  rw (all_count c.args.job.now c.requires.asked).1 refl,
  c.in_ok-answer.answer,
  c.in_ok-answer.ensures segments T (rw c.in-Some.is at folded) asked,
  c.remarks_on.ensures,
)

pub returns-clause-whole : goal.returns-clause-whole
returns-clause-whole g c = λ complete segments T folded some all.
    c.in_ok-check_complete.ensures.ok complete segments T (rw c.in-Some.is at folded) all
