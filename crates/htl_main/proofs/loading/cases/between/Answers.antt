-- Each of the two segments has an origin, since the parts have each.
use Rattle.htl_main.proofs.loading.cases.between.Goals as goal

pub returns-in-Some-Some : goal.returns-in-Some-Some
returns-in-Some-Some c = λ form inputs are.
    let broken = c.in-Some.ensures in
    record {
      one = broken.one;
      other = broken.other;
      broken = broken.broken;
      of_one = c.in-Some-Some.ensures.some form inputs broken.one are broken.at_first;
      of_other = c.in-Some-Some.ensures'.some form inputs broken.other are broken.at_second;
    }

pub returns-in_default-2 : goal.returns-in_default-2
returns-in_default-2 c = λ form inputs are.
    let broken = c.in-Some.ensures in
    absurd (c.in_default-2.ensures'.none form inputs broken.other are broken.at_second)

pub returns-in_default-2-2 : goal.returns-in_default-2-2
returns-in_default-2-2 c = λ form inputs are.
    let broken = c.in-Some.ensures in
    absurd (rw (c.in_default-2.is-0) at c.origin.ensures.none form inputs broken.one are broken.at_first)
