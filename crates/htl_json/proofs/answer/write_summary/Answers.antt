-- A summary's values are its first line, its gaps, the processes that are shown, and the objects that are shown.
use Rattle.std.proofs.Common.{◌++◌, ◌∷◌, [], length, map, rules, subst}
use Rattle.std.proofs.lemmas.Result.{on_ok_weaker}
use Rattle.htl_json.proofs.Added.{line_alone, rows_as_values, values_then}
use Rattle.htl_json.specs.Heads.{summary_head}
use Rattle.htl_json.specs.Rows.{missing, process_row, unbalanced_object}
use Rattle.htl_json.specs.Writing.{AddsLines}
use Rattle.htl_report.specs.Rows.{first_rows}
use Rattle.htl_json.proofs.answer.write_summary.Goals as goal

pub returns : goal.returns
returns c =
    let answer = c.args.answer.now in
    let gaps = c.args.gaps.now in
    let processes = first_rows c.args.top c.args.processes.now in
    let objects = first_rows c.args.top c.args.objects.now in
    let v = summary_head answer.question answer.since c.args.until c.args.totals.now (length gaps) (length c.args.processes.now) (length c.args.objects.now) in
    let old = c.args.lines.now in
    let a = c.write_summary_head.new.lines in
    let b = c.write_rows.new.lines in
    let d = c.write_rows-2.new.lines in
    let new = c.write_rows-3.new.lines in
    let head = line_alone v old a c.in_ok-write_summary_head.ensures in
    let absent = rows_as_values missing gaps a b c.in_ok-write_rows.ensures in
    let counted = rows_as_values process_row processes b d (subst (λ shown. AddsLines process_row b d shown) (search rules)
    c.in_ok-write_rows-2.ensures) in
    on_ok_weaker c.write_rows-3.result
    (λ h. values_then (v ∷ []) (map missing gaps ++ (map process_row processes ++ map unbalanced_object objects)) old a new head
    (values_then (map missing gaps) (map process_row processes ++ map unbalanced_object objects) a b new absent
    (values_then (map process_row processes) (map unbalanced_object objects) b d new counted
    (rows_as_values unbalanced_object objects d new (subst (λ shown. AddsLines unbalanced_object d new shown) (search rules) h)))))
    c.write_rows-3.ensures
