-- A summary is its first line, its gaps, the processes that are shown, and the objects that are shown.
use Rattle.std.proofs.Common.{◌≡◌, ◌++◌, ◌∙◌, ℕ, List, ap, append_assoc, rules, string_bytes, subst}
use Rattle.std.proofs.lemmas.Result.{on_ok_weaker}
use Rattle.std.specs.List.{flat_map}
use Rattle.htl_report.specs.Rows.{first_rows}
use Rattle.htl_report.specs.Summaries.{gap_line, object_line, process_line, summary_text}
use Rattle.htl_report.proofs.summary.write_summary.Goals as goal

-- what was written behind a text, and then more behind that
written_then : (old part more : List ℕ) {middle new : List ℕ} → middle ≡ old ++ part → new ≡ middle ++ more → new ≡ old ++ (part ++ more)
written_then old part more first second = second ∙ ap (λ text. text ++ more) first ∙ append_assoc old part more

pub returns : goal.returns
unfolding summary_text
returns c =
    let gaps = flat_map gap_line c.args.gaps.now in
    let processes = flat_map process_line (first_rows c.args.top c.args.processes.now) in
    let objects = flat_map object_line (first_rows c.args.top c.args.objects.now) in
    let old = string_bytes c.args.out.now in
    let a = string_bytes c.write_head.new.out in
    let b = string_bytes c.write_rows.new.out in
    let d = string_bytes c.write_rows-2.new.out in
    let new = string_bytes c.write_rows-3.new.out in
    let counted : d ≡ b ++ processes =
    subst (λ shown. d ≡ b ++ flat_map process_line shown) (search rules) c.in_ok-write_rows-2.ensures in
    on_ok_weaker c.write_rows-3.result
    (λ h. written_then old _ (gaps ++ (processes ++ objects)) c.in_ok-write_head.ensures
    (written_then a gaps (processes ++ objects) c.in_ok-write_rows.ensures
    (written_then b processes objects counted (subst (λ shown. new ≡ d ++ flat_map object_line shown) (search rules) h))))
    c.write_rows-3.ensures
