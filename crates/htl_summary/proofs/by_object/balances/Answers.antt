-- The sums of slots over all parts give the unbalanced objects and the number of objects.
use Rattle.std.proofs.lemmas.Result.{IfOk-weaker}
use Rattle.htl_answers.specs.Sums.{ListsSlotSums}
use Rattle.htl_summary.proofs.by_object.balances.Goals as goal

pub balances_of_slots-requires-clause-positive : goal.balances_of_slots-requires-clause-positive
balances_of_slots-requires-clause-positive g c = rw c.deref.ensures.value c.in_ok-sums.ensures.positive

pub returns-clause-unbalanced : goal.returns-clause-unbalanced
returns-clause-unbalanced g c = IfOk-weaker c.balances_of_slots.result _ _ (λ objects is events are.
    let listed : ListsSlotSums events c.deref.result.now = rw c.deref.ensures.value (c.in_ok-sums.ensures.sums events are) in
    is events listed) c.balances_of_slots.ensures.unbalanced
