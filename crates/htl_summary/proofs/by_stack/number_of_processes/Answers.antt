-- The processes that are left once repeats are dropped are those of the openers, in order, each once.
use Rattle.std.proofs.Common.{rules}
use Rattle.std.specs.FinMap.{nat_cmp-IsAntisymmetric}
use Rattle.htl_answers.proofs.PointLemmas.{numbers_rise}
use Rattle.htl_summary.proofs.by_stack.number_of_processes.Goals as goal

pub put_in_order-requires : goal.put_in_order-requires
put_in_order-requires c = nat_cmp-IsAntisymmetric

pub returns : goal.returns
returns c =
    let processes = c.put_in_order.new.rows.items in (
      processes,
      record {
        rising = numbers_rise processes c.put_in_order.ensures.rising;
        members = rw c.in_ok-processes.ensures at c.put_in_order.ensures.members;
      },
      search rules,
    )
