-- The fields of the first line of a summary: what was asked, the totals, and the moment.
use Rattle.std.proofs.Common.{◌++◌, codes, subst}
use Rattle.std.proofs.lemmas.Result.{on_ok_weaker}
use Rattle.htl_json.proofs.Line.{fields_then, line_added}
use Rattle.htl_json.specs.Heads.{question_fields, summary_head, totals_fields}
use Rattle.htl_json.specs.Records.{field_of}
use Rattle.htl_json.specs.Writing.{AddsLine}
use Rattle.htl_question.specs.Rows.{Found}
use Rattle.htl_json.proofs.heads.write_summary_head.Goals as goal

pub returns : goal.returns
returns c =
    let q = question_fields c.answer.inside.question c.answer.inside.since in
    let a = totals_fields c.args.totals.now c.args.gaps c.args.processes c.args.unbalanced in
    let b = field_of (codes "until") c.args.until in
    let asked = c.write_question.new.lines in
    let last = c.optional.new.self in
    let fields = fields_then q (a ++ b) c.begin_object.new.self asked last c.in_ok-write_question.ensures
    (fields_then a b asked c.write_totals.new.lines last c.in_ok-write_totals.ensures c.in_ok-optional.ensures) in
    on_ok_weaker c.end_line.result
    (λ h. subst (λ (x : Found). AddsLine c.args.lines.now c.end_line.new.self
    (summary_head x.question x.since c.args.until c.args.totals.now c.args.gaps c.args.processes c.args.unbalanced)) c.answer.view_is
    (line_added (q ++ (a ++ b)) c.args.lines.now c.begin_object.new.self last c.end_line.new.self c.requires c.in_ok-begin_object.ensures fields h))
    c.end_line.ensures
