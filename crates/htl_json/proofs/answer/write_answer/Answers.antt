-- The rows are those of the answer.
use Rattle.std.proofs.Common.{ap, subst}
use Rattle.std.proofs.lemmas.Result.{on_ok_weaker}
use Rattle.htl_json.specs.Lines.{values_with}
use Rattle.htl_json.specs.Writing.{AddsValues}
use Rattle.htl_question.specs.Rows.{Found}
use Rattle.htl_json.proofs.answer.write_answer.Goals as goal

pub returns : goal.returns
returns c =
    on_ok_weaker c.write_values.result
    (subst (λ rows. AddsValues c.args.lines.now c.write_values.new.lines (values_with c.args.symbols.now c.args.until c.args.top c.args.answer.now rows))
    (ap (λ (a : Found). a.rows) c.answer.view_is))
    c.write_values.ensures
