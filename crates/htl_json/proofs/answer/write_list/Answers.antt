-- The first line and then the lines of the rows that are printed.
use Rattle.std.proofs.Common.{◌≡◌, length, rules}
use Rattle.std.proofs.lemmas.Result.{on_ok_weaker}
use Rattle.htl_json.proofs.Added.{shown_added}
use Rattle.htl_json.specs.Heads.{head}
use Rattle.htl_report.specs.Rows.{first_rows}
use Rattle.htl_json.proofs.answer.write_list.Goals as goal

pub returns : goal.returns
returns g c =
    let answer = c.args.answer.now in
    let rows = c.args.rows.now in
    let first : c.first_rows.result.now ≡ first_rows c.args.top rows = search rules in
    on_ok_weaker c.write_rows.result
    (shown_added (g.F.Form.value_of c.args.symbols.now) (head answer.question answer.since c.args.objects c.args.until (length rows))
    (first_rows c.args.top rows) c.first_rows.result.now c.args.lines.now c.write_head.new.lines c.write_rows.new.lines first c.in_ok-write_head.ensures)
    c.write_rows.ensures
