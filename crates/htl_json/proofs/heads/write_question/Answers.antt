-- What was asked: the word, what it is about, and since when.
use Rattle.std.proofs.Common.{◌++◌, subst}
use Rattle.std.proofs.lemmas.Result.{on_ok_weaker}
use Rattle.htl_question.specs.Questions.{subject_of}
use Rattle.htl_json.proofs.Line.{fields_then}
use Rattle.htl_json.specs.Heads.{since_fields, subject_fields, word_field}
use Rattle.htl_json.specs.Writing.{AddsFields}
use Rattle.htl_json.proofs.heads.write_question.Goals as goal

pub returns : goal.returns
returns c =
    let question = c.args.question in
    let a = subject_fields (subject_of question) in
    let b = since_fields question c.args.since in
    let mid = c.write_word.new.lines in
    let about = subst (λ s. AddsFields mid c.write_subject.new.lines (subject_fields s)) c.subject.ensures c.in_ok-write_subject.ensures in
    on_ok_weaker c.write_since.result
    (λ h. fields_then (word_field question) (a ++ b) c.args.lines.now mid c.write_since.new.lines c.in_ok-write_word.ensures
    (fields_then a b mid c.write_subject.new.lines c.write_since.new.lines about h))
    c.write_since.ensures
