-- The rows are the stacks that opened so many outstanding handles at least, with the greatest number first.
use Rattle.std.proofs.Common.{◌≡◌, map, sym, ap, subst, ◌∙◌}
use Rattle.std.specs.Prelude.{Contains, filter}
use Rattle.std.proofs.lemmas.Result.{IfOk-weaker}
use Rattle.htl_event.specs.Tallies.{IsLeaksSince}
use Rattle.htl_answers.specs.Leaks.{opens_many, counted_first, stack_before_number}
use Rattle.htl_answers.proofs.Opens.{row_ties, leaks_listed}
use Rattle.htl_answers.proofs.leaking.leaks.Goals as goal

pub put_in_order-requires : goal.put_in_order-requires
put_in_order-requires g c = row_ties

pub returns : goal.returns
returns g c =
    let process = c.args.process in
    let since = c.args.since in
    let least = c.args.at_least in
    let opens = c.in_ok-opens.opens.items in
    let counts = c.in_ok-counts.counts.items in
    let ordered = c.put_in_order.new.rows.items in
    let sums = rw c.deref.ensures.value at c.in_ok-counts.ensures in
    let numbered : c.in_ok-leaks.leaks.items ≡ map counted_first (filter (opens_many least) counts) = c.in_ok-leaks.ensures
    ∙ ap (λ l. map counted_first (filter (opens_many least) l)) c.deref-2.ensures.value in
    IfOk-weaker c.stack_first.result _ _ (λ rows is events are own.
    subst (λ l. IsLeaksSince (Contains events) process since least l) (sym (is ∙ ap (map stack_before_number) c.deref-3.ensures.value))
    (leaks_listed events process since least opens (c.in_ok-opens.ensures events are own) counts sums ordered
    c.put_in_order.ensures.rising (rw numbered at c.put_in_order.ensures.members))) c.stack_first.ensures
