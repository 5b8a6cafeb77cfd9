-- The moments that are left once repeats are dropped are the span's, in order, each once.
use Rattle.htl_answers.proofs.PointLemmas.{moments_are, numbers_rise}
use Rattle.htl_answers.proofs.growing.moments_of.Goals as goal

pub returns-clause-rising : goal.returns-clause-rising
returns-clause-rising c = numbers_rise c.put_in_order.new.rows.items c.put_in_order.ensures.rising

pub returns-clause-members : goal.returns-clause-members
returns-clause-members c = λ moment.
    let same = rw c.in_ok-moments.ensures at (c.put_in_order.ensures.members moment) in
    let are = moments_are c.args.span c.args.points moment in
    (λ h. are.0 (same.0 h), λ is. same.1 (are.1 is))
