-- A turn adds the row of one used process more.
use Rattle.std.proofs.Common.{ℕ, ◌++◌, ◌∷◌, [], List, map, take, get_or, sym, ap, ◌∙◌}
use Rattle.std.proofs.lemmas.List.{take_more, map_push}
use Rattle.htl_event.specs.declared.summary.ProcessRow.{ProcessRow}
use Rattle.htl_summary.specs.declared.usage.Usage.{Usage}
use Rattle.htl_summary.proofs.ProcessRows.{rows_more}
use Rattle.htl_summary.proofs.by_process.process_rows.Goals as goal

abbrev no_usage : Usage
no_usage = record { process = 0; opens = 0; closes = 0; bad = 0 }

pub loop-usage-preserved : goal.loop-usage-preserved
loop-usage-preserved g c =
    let used = c.args.used.now in
    let i = c.loop-usage.usage-index in
    let rows = c.loop-usage.rows.items in
    let usage = get_or used i no_usage in
    let row = c.process_row.result in
    let so_far = c.loop-usage.invariant in
    let longer = take_more used i no_usage c.loop-usage-test.true in
    let owner : (r : ProcessRow) → ℕ = (λ r. r.process) in
    let user : (u : Usage) → ℕ = (λ u. u.process) in
    record {
      owners = rw (c.in_ok-push.ensures.items, longer) (map_push owner rows row ∙ ap (λ (l : List ℕ). l ++ row.process ∷ []) so_far.owners
          ∙ ap (λ (p : ℕ). map user (take i used) ++ p ∷ []) c.process_row.ensures.owner ∙ sym (map_push user (take i used) usage));
      rows_so_far = λ events own tables. rw (c.in_ok-push.ensures.items, longer)
          (rows_more events (take i used) rows usage row (so_far.rows_so_far events own tables) (c.process_row.ensures.row events own tables));
    }
