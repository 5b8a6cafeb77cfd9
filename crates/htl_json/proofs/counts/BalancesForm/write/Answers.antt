-- The numbers by which one count is more than the other are those of the definition.
use Rattle.std.proofs.Common.{◌++◌, ◌-◌, ◌∷◌, [], ℕ, codes, subst}
use Rattle.std.proofs.lemmas.Result.{on_ok_weaker}
use Rattle.htl_json.specs.Records.{count_fields, quantity, record_of, tag_fields}
use Rattle.htl_json.specs.Rows.{balance_fields, objects_field}
use Rattle.htl_json.specs.Writing.{AddsLine}
use Rattle.htl_json.proofs.counts.BalancesForm.write.Goals as goal

pub returns : goal.returns
unfolding balance_fields objects_field
returns c =
    let row = c.args.row.now in
    let added = λ (over under : ℕ). AddsLine c.args.lines.now c.write_line.new.lines (record_of (tag_fields row.by
    ++ (count_fields row.count.plus row.count.minus
    ++ (codes "over", quantity over) ∷ (codes "under", quantity under) ∷ (codes "objects", quantity row.objects) ∷ []))) in
    on_ok_weaker c.write_line.result
    (λ h. subst (added (row.count.plus - row.count.minus)) c.saturating_sub-2.ensures
    (subst (λ over. added over c.saturating_sub-2.result) c.saturating_sub.ensures h))
    c.write_line.ensures
