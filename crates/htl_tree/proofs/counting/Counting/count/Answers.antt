-- What the rows count more is what the event counts.
use Rattle.std.proofs.Common.{◌≡◌, ℕ, List, Some, sym, ap, ◌∙◌}
use Rattle.htl_event.specs.Events.{Event}
use Rattle.htl_event.specs.Slots.{slot_of}
use Rattle.htl_event.specs.declared.slot.Count.{Count}
use Rattle.htl_event.specs.Tallies.{plus_count, tally}
use Rattle.htl_tree.specs.Rows.{one_at}
use Rattle.htl_tree.proofs.Events.{tally_one_more}
use Rattle.htl_tree.proofs.counting.Counting.count.Goals as goal

pub returns-in_ok-count_in_rows-in-Some-clause-tally : goal.returns-in_ok-count_in_rows-in-Some-clause-tally
returns-in_ok-count_in_rows-in-Some-clause-tally g c before tallied s k =
    let e : Event = c.args.event.now in
    let slot = c.in-Some.slot in
    let sign = c.in-Some.sign in
    let is : slot_of e ≡ Some (slot, sign) = sym c.slot.ensures ∙ c.in-Some.is in
    let stack : c.frames-stack.result.now ≡ e.stack = c.frames-stack.ensures.value in
    let old : Count = tally before s k in
    c.in_ok-count_in_rows-in-Some.ensures.counts s k ∙ ap (λ x. plus_count x (one_at c.frames-stack.result.now slot sign s k)) (tallied s k)
    ∙ ap (λ (l : List ℕ). plus_count old (one_at l slot sign s k)) stack ∙ sym (tally_one_more before e slot sign is s k)
