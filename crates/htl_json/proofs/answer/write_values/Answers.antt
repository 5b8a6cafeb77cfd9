-- The values are those of the rows, of whatever form.
use Rattle.std.proofs.Common.{None, Some, ap, refl, subst, sym}
use Rattle.std.proofs.lemmas.Result.{on_ok_weaker}
use Rattle.htl_question.specs.Rows.{Listed, bad, balances, leaks, listed, listing, opens, points, sites, stacks, tag_stacks, tags}
use Rattle.htl_json.proofs.Added.{list_added}
use Rattle.htl_json.specs.Lines.{summary_values, values_with}
use Rattle.htl_json.specs.Rows.{bad_reference, balance_row, counted_stack, leak, listed as listed_row, opened, point_row, site_row, tag_balance, tag_stack}
use Rattle.htl_json.specs.Writing.{AddsValues}
use Rattle.htl_json.proofs.answer.write_values.Goals as goal

pub returns-in-Opens : goal.returns-in-Opens
returns-in-Opens c =
    on_ok_weaker c.write_list.result
    (list_added (opened c.args.symbols.now) None c.args.symbols.now c.args.until c.args.top c.args.answer.now _
    (opens c.in-Opens.rows.items) c.in-Opens.rows.items _ c.args.lines.now c.write_list.new.lines
    (ap listed c.in-Opens.is) refl c.deref.ensures.value)
    c.write_list.ensures

pub returns-in-Listing : goal.returns-in-Listing
returns-in-Listing c =
    on_ok_weaker c.write_list-in-Listing.result
    (list_added (listed_row c.args.symbols.now) None c.args.symbols.now c.args.until c.args.top c.args.answer.now _
    (listing c.in-Listing.rows.items) c.in-Listing.rows.items _ c.args.lines.now c.write_list-in-Listing.new.lines
    (ap listed c.in-Listing.is) refl c.deref-in-Listing.ensures.value)
    c.write_list-in-Listing.ensures

pub returns-in-Tags : goal.returns-in-Tags
returns-in-Tags c =
    on_ok_weaker c.write_list-in-Tags.result
    (list_added tag_balance None c.args.symbols.now c.args.until c.args.top c.args.answer.now _
    (tags c.in-Tags.rows.items) c.in-Tags.rows.items _ c.args.lines.now c.write_list-in-Tags.new.lines
    (ap listed c.in-Tags.is) refl c.deref-in-Tags.ensures.value)
    c.write_list-in-Tags.ensures

pub returns-in-Bad : goal.returns-in-Bad
returns-in-Bad c =
    on_ok_weaker c.write_list-in-Bad.result
    (list_added (bad_reference c.args.symbols.now) None c.args.symbols.now c.args.until c.args.top c.args.answer.now _
    (bad c.in-Bad.rows.items) c.in-Bad.rows.items _ c.args.lines.now c.write_list-in-Bad.new.lines
    (ap listed c.in-Bad.is) refl c.deref-in-Bad.ensures.value)
    c.write_list-in-Bad.ensures

pub returns-in-Leaks : goal.returns-in-Leaks
returns-in-Leaks c =
    on_ok_weaker c.write_list-in-Leaks.result
    (list_added (leak c.args.symbols.now) None c.args.symbols.now c.args.until c.args.top c.args.answer.now _
    (leaks c.in-Leaks.rows.items) c.in-Leaks.rows.items _ c.args.lines.now c.write_list-in-Leaks.new.lines
    (ap listed c.in-Leaks.is) refl c.deref-in-Leaks.ensures.value)
    c.write_list-in-Leaks.ensures

pub returns-in-Sites : goal.returns-in-Sites
returns-in-Sites c =
    on_ok_weaker c.write_list-in-Sites.result
    (list_added (site_row c.args.symbols.now) None c.args.symbols.now c.args.until c.args.top c.args.answer.now _
    (sites c.in-Sites.rows.items) c.in-Sites.rows.items _ c.args.lines.now c.write_list-in-Sites.new.lines
    (ap listed c.in-Sites.is) refl c.deref-in-Sites.ensures.value)
    c.write_list-in-Sites.ensures

pub returns-in-Stacks : goal.returns-in-Stacks
returns-in-Stacks c =
    on_ok_weaker c.write_list-in-Stacks.result
    (list_added (counted_stack c.args.symbols.now) None c.args.symbols.now c.args.until c.args.top c.args.answer.now _
    (stacks c.in-Stacks.rows.items) c.in-Stacks.rows.items _ c.args.lines.now c.write_list-in-Stacks.new.lines
    (ap listed c.in-Stacks.is) refl c.deref-in-Stacks.ensures.value)
    c.write_list-in-Stacks.ensures

pub returns-in-Balances : goal.returns-in-Balances
returns-in-Balances c =
    on_ok_weaker c.write_list-in-Balances.result
    (list_added balance_row (Some c.in-Balances.objects) c.args.symbols.now c.args.until c.args.top c.args.answer.now _
    (balances c.in-Balances.objects c.in-Balances.tags.items) c.in-Balances.tags.items _ c.args.lines.now c.write_list-in-Balances.new.lines
    (ap listed c.in-Balances.is) refl c.deref-in-Balances.ensures.value)
    c.write_list-in-Balances.ensures

pub returns-in-TagStacks : goal.returns-in-TagStacks
returns-in-TagStacks c =
    on_ok_weaker c.write_list-in-TagStacks.result
    (list_added (tag_stack c.args.symbols.now) None c.args.symbols.now c.args.until c.args.top c.args.answer.now _
    (tag_stacks c.in-TagStacks.rows.items) c.in-TagStacks.rows.items _ c.args.lines.now c.write_list-in-TagStacks.new.lines
    (ap listed c.in-TagStacks.is) refl c.deref-in-TagStacks.ensures.value)
    c.write_list-in-TagStacks.ensures

pub returns-in-Points : goal.returns-in-Points
returns-in-Points c =
    on_ok_weaker c.write_list-in-Points.result
    (list_added point_row None c.args.symbols.now c.args.until c.args.top c.args.answer.now _
    (points c.in-Points.rows.items) c.in-Points.rows.items _ c.args.lines.now c.write_list-in-Points.new.lines
    (ap listed c.in-Points.is) refl c.deref-in-Points.ensures.value)
    c.write_list-in-Points.ensures

pub returns-in-Summary : goal.returns-in-Summary
returns-in-Summary c =
    let old = c.args.lines.now in
    let new = c.write_summary.new.lines in
    let values = summary_values c.args.answer.now c.args.until c.args.top c.in-Summary.totals in
    let gaps = c.in-Summary.gaps.items in
    let processes = c.in-Summary.processes.items in
    let shown = c.deref-in-Summary-2.result.now in
    let objects = c.deref-in-Summary-3.result.now in
    on_ok_weaker c.write_summary.result
    (λ h. subst (λ (r : Listed). AddsValues old new (values_with c.args.symbols.now c.args.until c.args.top c.args.answer.now r))
    (sym (ap listed c.in-Summary.is))
    (subst (λ x. AddsValues old new (values gaps processes x)) c.deref-in-Summary-3.ensures.value
    (subst (λ x. AddsValues old new (values gaps x objects)) c.deref-in-Summary-2.ensures.value
    (subst (λ x. AddsValues old new (values x shown objects)) c.deref-in-Summary.ensures.value h))))
    c.write_summary.ensures
