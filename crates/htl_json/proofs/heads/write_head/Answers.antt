-- The fields of a first line: what was asked, and the numbers.
use Rattle.std.proofs.Common.{◌++◌, subst}
use Rattle.std.proofs.lemmas.Result.{on_ok_weaker}
use Rattle.htl_json.proofs.Line.{fields_then, line_added}
use Rattle.htl_json.specs.Heads.{head, numbers_fields, question_fields}
use Rattle.htl_json.specs.Writing.{AddsLine}
use Rattle.htl_question.specs.Rows.{Found}
use Rattle.htl_json.proofs.heads.write_head.Goals as goal

pub returns : goal.returns
returns c =
    let a = question_fields c.answer.inside.question c.answer.inside.since in
    let b = numbers_fields c.args.objects c.args.until c.args.count in
    let last = c.write_numbers.new.lines in
    let fields = fields_then a b c.begin_object.new.self c.write_question.new.lines last c.in_ok-write_question.ensures c.in_ok-write_numbers.ensures in
    on_ok_weaker c.end_line.result
    (λ h. subst (λ (x : Found). AddsLine c.args.lines.now c.end_line.new.self (head x.question x.since c.args.objects c.args.until c.args.count))
    c.answer.view_is
    (line_added (a ++ b) c.args.lines.now c.begin_object.new.self last c.end_line.new.self c.requires c.in_ok-begin_object.ensures fields h))
    c.end_line.ensures
