-- Counts that are merged with those of the rows gained the rows.
use Rattle.std.proofs.Common.{ap, ◌∙◌}
use Rattle.std.specs.FinMap.Entries.{find}
use Rattle.htl_event.specs.SlotOrder.{slot_cmp}
use Rattle.htl_event.specs.Tallies.{plus_count}
use Rattle.htl_sorted.specs.Entries.{joined_at}
use Rattle.htl_tree.proofs.RowsAdded.{gained_merged}
use Rattle.htl_tree.proofs.filling.add_to_counts.Goals as goal

pub returns-clause-ok : goal.returns-clause-ok
returns-clause-ok g c =
    let old = c.args.counts.now.items in
    let more = c.in_ok-more.more.items in
    gained_merged c.args.rows.now old more c.in_ok-sums.sums.items c.requires.positive c.in_ok-more.ensures c.in_ok-sums.ensures.sorted
    (λ slot. c.in_ok-sums.ensures.values slot
    ∙ ap (λ es. joined_at plus_count (find slot_cmp slot es) (find slot_cmp slot c.deref-2.result.now)) c.deref.ensures.value
    ∙ ap (λ es. joined_at plus_count (find slot_cmp slot old) (find slot_cmp slot es)) c.deref-2.ensures.value)
