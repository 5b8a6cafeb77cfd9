-- What was folded misses no key, or the least that it misses is reported.
use Rattle.std.proofs.Common.{◌≡◌, rules, true}
use Rattle.htl_main.proofs.folding.answers.check_complete.Goals as goal

pub returns-in-Some-clause-err : goal.returns-in-Some-clause-err
returns-in-Some-clause-err c =
    let complete : c.args.complete ≡ true = search (rules, c.if-not-complete.false) in
    (complete, λ segments T folded all. c.in-Some.ensures.some T (c.in_ok-missed.ensures segments T folded all))

pub returns-clause-ok : goal.returns-clause-ok
returns-clause-ok c = λ complete segments T folded all. record {
  whole = c.in-None.ensures.none T (c.in_ok-missed.ensures segments T folded all);
  known = search rules;
}
