-- The counts of all slots list how often each slot of the events came.
use Rattle.htl_tree.specs.declared.slots.Slots.TheVariants.{All}
use Rattle.htl_answers.proofs.SlotLists.{sums_listed, all_listed}
use Rattle.htl_answers.proofs.sums.slot_sums.Goals as goal

pub returns-clause-sums : goal.returns-clause-sums
returns-clause-sums g c = λ events are.
    let sums = c.in_ok-sums.sums.items in
    all_listed events sums (sums_listed All events sums c.in_ok-sums.ensures.rising c.in_ok-sums.ensures.positive (c.in_ok-sums.ensures.counts events are))
