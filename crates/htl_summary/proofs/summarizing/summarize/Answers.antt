-- What was counted over all parts gives the processes and the objects of the summary.
use Rattle.htl_answers.specs.Sums.{ListsSlotSums}
use Rattle.htl_summary.proofs.summarizing.summarize.Goals as goal

pub processes_of-requires : goal.processes_of-requires
processes_of-requires g c = rw c.deref.ensures.value c.in_ok-counted.ensures.counted.usages.sorted

pub balances_of_slots-requires-clause-positive : goal.balances_of_slots-requires-clause-positive
balances_of_slots-requires-clause-positive g c = rw c.deref-2.ensures.value c.in_ok-counted.ensures.counted.positive

pub returns-clause-unbalanced : goal.returns-clause-unbalanced
returns-clause-unbalanced g c = λ events are.
    let listed : ListsSlotSums events c.deref-2.result.now = rw c.deref-2.ensures.value (c.in_ok-counted.ensures.counted.listed events are) in
    c.in_ok-objects.ensures.unbalanced events listed
